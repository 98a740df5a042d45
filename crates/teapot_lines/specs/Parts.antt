-- The parts of a line.
use Rattle.std.specs.Prelude.{◌≡◌, ℕ, zero, suc, ◌==◌, Bool, true, false, if◌then◌else◌, List, [], ◌∷◌, ◌++◌, length, Option}
use Rattle.std.specs.Prelude.{Some, None, Result, Ok, Err}
use Rattle.std.specs.Option.{option_map}
use Rattle.std.specs.Str.{bytes_eq}
use Rattle.tw_base.specs.Answers.{◌>>?◌}
use Rattle.tw_base.specs.declared.message.Chan.{Chan}
use Rattle.tw_base.specs.declared.message.Chan.TheVariants as c
use Rattle.tw_base.specs.declared.value.Tag.{Tag}
use Rattle.tw_base.specs.declared.value.Tag.TheVariants as g
use Rattle.tw_lex.specs.declared.token.Mark.{Mark}
use Rattle.tw_lex.specs.declared.token.Mark.TheVariants as m
use Rattle.tw_lex.specs.Laws.{spelling as mark_spelling}
use Rattle.teapot_tree.specs.declared.keyword.Keyword.{Keyword}
use Rattle.teapot_tree.specs.declared.keyword.Keyword.TheVariants as k
use Rattle.teapot_tree.specs.declared.protocol.ValType.{ValType}
use Rattle.teapot_tree.specs.declared.protocol.ValType.TheVariants as t
use Rattle.teapot_lines.specs.declared.form.Typed.{Typed}
use Rattle.teapot_lines.specs.declared.form.Answers.{Answers}
use Rattle.teapot_lines.specs.declared.form.Answers.TheVariants as a
use Rattle.teapot_lines.specs.declared.parts.ReadError.{ReadError}
use Rattle.teapot_lines.specs.declared.parts.ReadError.TheVariants.{Bad, Memory}
use Rattle.teapot_lines.specs.Seen.{Seen, Key, Named, Number, Marked}

-- nothing is due, unless memory ran out
abbrev pub Misses : {Y : Type 0} → ReadError → Option Y → Type 0
Misses Bad due = due ≡ None
Misses Memory due = Unit {0}

-- what was read, seen by view, is what is due, unless memory ran out
abbrev pub Reads : {X Y : Type 0} → (X → Y) → Result X ReadError → Option Y → Type 0
Reads view (Ok x) due = due ≡ Some (view x)
Reads view (Err e) due = Misses e due

-- a part at the front, and the tokens behind it
abbrev pub Got : Type 0 → Type 0
Got A = Option (A × List Seen)

-- two marks are one where they are spelled the same
abbrev pub same_mark : Mark → Mark → Bool
same_mark a b = bytes_eq (mark_spelling a) (mark_spelling b)

-- the tokens past a mark that stands at the front
abbrev pub past : Mark → List Seen → Option (List Seen)
past mark (Marked found ∷ ts) = if same_mark found mark then Some ts else None
past mark _ = None

abbrev pub opened : List Seen → Option (List Seen)
opened = past m.Open

abbrev pub closed : List Seen → Option (List Seen)
closed = past m.Close

abbrev pub brace_opened : List Seen → Option (List Seen)
brace_opened = past m.BraceOpen

abbrev pub brace_closed : List Seen → Option (List Seen)
brace_closed = past m.BraceClose

abbrev pub comma : List Seen → Option (List Seen)
comma = past m.Comma

abbrev pub semicolon : List Seen → Option (List Seen)
semicolon = past m.Semicolon

abbrev pub becomes : List Seen → Option (List Seen)
becomes = past m.Becomes

-- no item of a list may begin here
abbrev pub ends : List Seen → Bool
ends [] = true
ends (Marked m.Close ∷ ts) = true
ends (Marked m.BraceClose ∷ ts) = true
ends (Marked m.Semicolon ∷ ts) = true
ends _ = false

abbrev pub named : List Seen → Got (List ℕ)
named (Named w ∷ ts) = Some (w, ts)
named _ = None

abbrev pub type_of : Keyword → Option ValType
type_of k.Int = Some t.Int
type_of k.Bool = Some t.Bool
type_of k.Node = Some t.Node
type_of k.Set = Some t.Set
type_of _ = None

abbrev pub typed : List Seen → Got ValType
typed (Key key ∷ ts) = option_map (λ ty. (ty, ts)) (type_of key)
typed _ = None

abbrev pub tag_of : Keyword → Option Tag
tag_of k.Invalid = Some g.Invalid
tag_of k.ReadOnly = Some g.ReadOnly
tag_of k.ReadWrite = Some g.ReadWrite
tag_of _ = None

abbrev pub tagged : List Seen → Got Tag
tagged (Key key ∷ ts) = option_map (λ tag. (tag, ts)) (tag_of key)
tagged _ = None

-- a channel, 0 or 1
abbrev pub chan_of : ℕ → Option Chan
chan_of n = if n == 0 then Some c.Zero else (if n == 1 then Some c.One else None)

abbrev pub channel : List Seen → Got Chan
channel (Number n ∷ ts) = option_map (λ chan. (chan, ts)) (chan_of n)
channel _ = None

abbrev pub param : List Seen → Got Typed
param ts = named ts >>? λ n. typed n.1 >>? λ y. Some (record { name = n.0; ty = y.0 }, y.1)

abbrev pub answers : List Seen → Got Answers
answers (Key k.RdFault ∷ ts) = Some (a.RdFault, ts)
answers (Key k.WrFault ∷ ts) = Some (a.WrFault, ts)
answers (Named w ∷ ts) = Some (a.Named w, ts)
answers _ = None

-- a name in brackets
abbrev pub bracketed : List Seen → Got (List ℕ)
bracketed ts = opened ts >>? λ t1. named t1 >>? λ n. closed n.1 >>? λ t2. Some (n.0, t2)

-- ---- lists

abbrev pub with_front : {A : Type 0} → List A → Got (List A) → Got (List A)
with_front front r = option_map (λ x. (front ++ x.0, x.1)) r

abbrev pub if_comma : {A : Type 0} → Option (List Seen) → List Seen → (List Seen → Got (List A)) → Got (List A)
if_comma None ts go = Some ([], ts)
if_comma (Some us) ts go = go us

-- further items, each behind a comma; at most so many
unfoldable pub more : {A : Type 0} → (List Seen → Got A) → ℕ → List Seen → Got (List A)
more item zero ts = None
more item (suc n) ts = if_comma (comma ts) ts (λ us. item us >>? λ x. with_front (x.0 ∷ []) (more item n x.1))

abbrev pub more_at : {A : Type 0} → (List Seen → Got A) → List Seen → Got (List A)
more_at item ts = more item (length ts) ts

-- none or more items with commas between
abbrev pub listed : {A : Type 0} → (List Seen → Got A) → List Seen → Got (List A)
listed item ts = if ends ts then Some ([], ts) else item ts >>? λ x. with_front (x.0 ∷ []) (more_at item x.1)

-- ---- spelling

abbrev pub tails : {A : Type 0} → (A → List Seen) → List A → List Seen
tails spell [] = []
tails spell (x ∷ xs) = Marked m.Comma ∷ (spell x ++ tails spell xs)

abbrev pub spelled_list : {A : Type 0} → (A → List Seen) → List A → List Seen
spelled_list spell [] = []
spelled_list spell (x ∷ xs) = spell x ++ tails spell xs

abbrev pub word_of : ValType → Keyword
word_of t.Int = k.Int
word_of t.Bool = k.Bool
word_of t.Node = k.Node
word_of t.Set = k.Set

abbrev pub spelled_type : ValType → List Seen
spelled_type ty = Key (word_of ty) ∷ []

abbrev pub tag_word : Tag → Keyword
tag_word g.Invalid = k.Invalid
tag_word g.ReadOnly = k.ReadOnly
tag_word g.ReadWrite = k.ReadWrite

abbrev pub chan_number : Chan → ℕ
chan_number c.Zero = 0
chan_number c.One = 1

abbrev pub spelled_param : Typed → List Seen
spelled_param p = Named p.name ∷ Key (word_of p.ty) ∷ []

abbrev pub spelled_name : List ℕ → List Seen
spelled_name w = Named w ∷ []

abbrev pub spelled_answers : Answers → List Seen
spelled_answers a.RdFault = Key k.RdFault ∷ []
spelled_answers a.WrFault = Key k.WrFault ∷ []
spelled_answers (a.Named w) = Named w ∷ []
