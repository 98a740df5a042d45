-- The first word of a line tells its kind.
use Rattle.std.proofs.Common.{◌≡◌, ◌⊎◌, ℕ, codes, Bool, true, false, ◌&&◌, ◌||◌, not, List, [], ◌∷◌, ◌++◌, refl, ap, sym, ◌∙◌}
use Rattle.std.proofs.Common.{subst, inl, inr}
use Rattle.std.specs.List.{list_any}
use Rattle.std.specs.Str.{bytes_eq}
use Rattle.std.proofs.lemmas.Slice.Eq.{bytes_eq-Decides}
use Rattle.tw_base.specs.Shape.{Sizes}
use Rattle.tw_lex.specs.declared.token.Line.{Line}
use Rattle.tw_lex.specs.declared.token.Token.{Token}
use Rattle.tw_lex.specs.declared.token.What.{What}
use Rattle.tw_lex.specs.declared.token.What.TheVariants as whats
use Rattle.report_reader.specs.declared.kind.LineKind.{LineKind}
use Rattle.report_reader.specs.declared.kind.LineKind.TheVariants as kinds
use Rattle.report_reader.specs.Slots.{Slot, Says, fits, fits_what}
use Rattle.report_reader.specs.Forms.{forms_of, is_line}
use Rattle.report_reader.specs.Reading.{is_of}
use Rattle.report_laws.specs.Laws.{AreOf}

abbrev pub keyword : LineKind → List ℕ
keyword kinds.Print = codes "print"
keyword kinds.Word = codes "word"
keyword kinds.Register = codes "register"
keyword kinds.Node = codes "node"
keyword kinds.Counts = codes "counts"
keyword kinds.Completed = codes "event"
keyword kinds.Fault = codes "event"
keyword kinds.Redelivered = codes "event"
keyword kinds.Delivered = codes "event"
keyword kinds.History = codes "history"
keyword kinds.End = codes "end"

-- the form begins with the word
abbrev pub Heads : List ℕ → List Slot → Type 0
Heads w [] = ⊥
Heads w (Says v ∷ slots) = v ≡ w
Heads w (_ ∷ slots) = ⊥

abbrev pub AllHead : List ℕ → List (List Slot) → Type 0
AllHead w [] = Unit {0}
AllHead w (form ∷ forms) = Heads w form × AllHead w forms

-- the line begins with the word
abbrev pub Begins : List ℕ → List Token → Type 0
Begins w [] = ⊥
Begins w (t ∷ ts) = t.what ≡ whats.Word w

-- each form of a kind begins with the kind's keyword
headed : (kind : LineKind) → AllHead (keyword kind) (forms_of kind)
headed kinds.Print = (refl, tt)
headed kinds.Word = (refl, tt)
headed kinds.Register = (refl, tt)
headed kinds.Node = (refl, (refl, (refl, (refl, (refl, tt)))))
headed kinds.Counts = (refl, tt)
headed kinds.Completed = (refl, (refl, (refl, (refl, (refl, (refl, (refl, tt)))))))
headed kinds.Fault = (refl, (refl, tt))
headed kinds.Redelivered = (refl, (refl, tt))
headed kinds.Delivered = (refl, (refl, tt))
headed kinds.History = (refl, (refl, tt))
headed kinds.End = (refl, tt)

-- ---- a line of a form begins with its word

and-first : (a b : Bool) → (a && b) ≡ true → a ≡ true
and-first true b e = refl
and-first false b e = e

says-what : (shape : Sizes) (k : ℕ) (v : List ℕ) (what : What) → fits_what shape k (Says v) what ≡ true → what ≡ whats.Word v
says-what shape k v (whats.Word u) e = ap (λ (x : List ℕ). whats.Word x) ((bytes_eq-Decides u v).0 e)
says-what shape k v (whats.Number n) e = cc
says-what shape k v (whats.Mark m) e = cc

form-begins : (w : List ℕ) (form : List Slot) → Heads w form → (shape : Sizes) (k : ℕ) (ts : List Token) →
    fits shape k form ts ≡ true → Begins w ts
unfolding fits
form-begins w [] h shape k ts e = absurd h
form-begins w (Says v ∷ slots) h shape k [] e = absurd cc
form-begins w (Says v ∷ slots) h shape k (t ∷ ts) e =
    says-what shape k v t.what (and-first (fits_what shape k (Says v) t.what) (fits shape k slots ts) e)
    ∙ ap (λ (x : List ℕ). whats.Word x) h
form-begins w (_ ∷ slots) h shape k ts e = absurd h

some-begins : (w : List ℕ) (forms : List (List Slot)) → AllHead w forms → (shape : Sizes) (k : ℕ) (ts : List Token) →
    list_any (λ form. fits shape k form ts) forms ≡ true → Begins w ts
some-begins w [] h shape k ts e = absurd cc
some-begins w (form ∷ forms) h shape k ts e = go (fits shape k form ts) refl e (some-begins w forms h.1 shape k ts)
  where
    go : (b : Bool) → fits shape k form ts ≡ b → (b || list_any (λ f. fits shape k f ts) forms) ≡ true →
        (list_any (λ f. fits shape k f ts) forms ≡ true → Begins w ts) → Begins w ts
    go true is or later = form-begins w form h.0 shape k ts is
    go false is or later = later or

pub line-begins : (shape : Sizes) (kind : LineKind) (k : ℕ) (ts : List Token) → is_line shape kind k ts ≡ true →
    Begins (keyword kind) ts
line-begins shape kind k ts e = some-begins (keyword kind) (forms_of kind) (headed kind) shape k ts e

-- ---- and a line that begins with another word is not of the form

other-form : (w v : List ℕ) (form : List Slot) → Heads v form → bytes_eq w v ≡ false →
    (shape : Sizes) (k : ℕ) (ts : List Token) → Begins w ts → fits shape k form ts ≡ false
unfolding fits
other-form w v [] h ne shape k ts b = absurd h
other-form w v (Says u ∷ slots) h ne shape k [] b = absurd b
other-form w v (Says u ∷ slots) h ne shape k (t ∷ ts) b =
    let no : fits_what shape k (Says u) t.what ≡ false = ap (fits_what shape k (Says u)) b ∙ ap (bytes_eq w) h ∙ ne in rw no refl
other-form w v (_ ∷ slots) h ne shape k ts b = absurd h

no-form : (w v : List ℕ) (forms : List (List Slot)) → AllHead v forms → bytes_eq w v ≡ false →
    (shape : Sizes) (k : ℕ) (ts : List Token) → Begins w ts → list_any (λ form. fits shape k form ts) forms ≡ false
no-form w v [] h ne shape k ts b = refl
no-form w v (form ∷ forms) h ne shape k ts b = rw (other-form w v form h.0 ne shape k ts b)
    (no-form w v forms h.1 ne shape k ts b)

other-line : (shape : Sizes) (kind : LineKind) (k : ℕ) (ts : List Token) (w : List ℕ) → bytes_eq w (keyword kind) ≡ false →
    Begins w ts → is_line shape kind k ts ≡ false
other-line shape kind k ts w ne b = no-form w (keyword kind) (forms_of kind) (headed kind) ne shape k ts b

-- ---- lines whose first begins with one of some words

abbrev pub OneOf : List (List ℕ) → List Token → Type 0
OneOf [] ts = ⊥
OneOf (w ∷ ws) ts = Begins w ts ⊎ OneOf ws ts

abbrev pub Opens : List (List ℕ) → List Line → Type 0
Opens ws [] = ⊥
Opens ws (l ∷ ls) = OneOf ws l.tokens

-- no keyword of these kinds is among the words
abbrev pub is_apart : LineKind → List (List ℕ) → Bool
is_apart kind [] = true
is_apart kind (w ∷ ws) = not (bytes_eq w (keyword kind)) && is_apart kind ws

abbrev pub are_apart : List LineKind → List (List ℕ) → Bool
are_apart [] ws = true
are_apart (kind ∷ kinds) ws = is_apart kind ws && are_apart kinds ws

not-true : (b : Bool) → not b ≡ true → b ≡ false
not-true true e = sym e
not-true false e = refl

and-second : (a b : Bool) → (a && b) ≡ true → b ≡ true
and-second true b e = e
and-second false b e = absurd cc

apart-line : (shape : Sizes) (kind : LineKind) (k : ℕ) (ts : List Token) (ws : List (List ℕ)) → is_apart kind ws ≡ true →
    OneOf ws ts → is_line shape kind k ts ≡ false
apart-line shape kind k ts [] e o = absurd o
apart-line shape kind k ts (w ∷ ws) e o = elim o as (λ x. is_line shape kind k ts ≡ false) [
  | inl b ↦ other-line shape kind k ts w (not-true (bytes_eq w (keyword kind))
      (and-first (not (bytes_eq w (keyword kind))) (is_apart kind ws) e)) b
  | inr r ↦ apart-line shape kind k ts ws (and-second (not (bytes_eq w (keyword kind))) (is_apart kind ws) e) r
]

pub apart-of : (shape : Sizes) (wanted : List LineKind) (k : ℕ) (ts : List Token) (ws : List (List ℕ)) →
    are_apart wanted ws ≡ true → OneOf ws ts → is_of shape wanted k ts ≡ false
apart-of shape [] k ts ws e o = refl
apart-of shape (kind ∷ wanted) k ts ws e o =
    rw (apart-line shape kind k ts ws (and-first (is_apart kind ws) (are_apart wanted ws) e) o)
    (apart-of shape wanted k ts ws (and-second (is_apart kind ws) (are_apart wanted ws) e) o)

-- the keyword of all of these kinds
abbrev pub HaveWord : List ℕ → List LineKind → Type 0
HaveWord w [] = Unit {0}
HaveWord w (kind ∷ wanted) = (keyword kind ≡ w) × HaveWord w wanted

of-begins : (shape : Sizes) (wanted : List LineKind) (k : ℕ) (ts : List Token) (w : List ℕ) → HaveWord w wanted →
    is_of shape wanted k ts ≡ true → Begins w ts
of-begins shape [] k ts w h e = absurd cc
of-begins shape (kind ∷ wanted) k ts w h e = go (is_line shape kind k ts) refl e (of-begins shape wanted k ts w h.1)
  where
    go : (b : Bool) → is_line shape kind k ts ≡ b → (b || is_of shape wanted k ts) ≡ true →
        (is_of shape wanted k ts ≡ true → Begins w ts) → Begins w ts
    go true is or later = subst (λ (v : List ℕ). Begins v ts) h.0 (line-begins shape kind k ts is)
    go false is or later = later or

-- lines of some kinds before others
pub opens-before : (shape : Sizes) (wanted : List LineKind) (k : ℕ) (xs rest : List Line) (w : List ℕ) (ws : List (List ℕ)) →
    HaveWord w wanted → AreOf shape wanted k xs → Opens ws rest →
    Opens (w ∷ ws) (xs ++ rest)
opens-before shape wanted k [] [] w ws h a o = absurd o
opens-before shape wanted k [] (l ∷ ls) w ws h a o = inr o
opens-before shape wanted k (x ∷ xs) rest w ws h a o = inl (of-begins shape wanted k x.tokens w h a.0)
