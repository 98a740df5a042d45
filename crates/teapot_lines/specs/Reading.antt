-- Reading an expression from tokens, with a stack of the brackets that are open.
use Rattle.std.specs.Prelude.{◌^◌, nat_lt, if◌then◌else◌, List, [], ◌∷◌, Option, Some, None}
use Rattle.std.specs.Option.{option_map}
use Rattle.teapot_tree.specs.declared.keyword.Keyword.{Keyword}
use Rattle.teapot_tree.specs.declared.keyword.Keyword.TheVariants as k
use Rattle.tw_lex.specs.declared.token.Mark.{Mark}
use Rattle.tw_lex.specs.declared.token.Mark.TheVariants as m
use Rattle.teapot_tree.specs.declared.expr.Op.{Op}
use Rattle.teapot_tree.specs.declared.expr.Op.TheVariants as o
use Rattle.teapot_tree.specs.declared.expr.Expr.TheVariants as e
use Rattle.teapot_lines.specs.declared.cut.Cut.{Cut}
use Rattle.teapot_lines.specs.declared.cut.Unary.TheVariants as u
use Rattle.teapot_lines.specs.declared.reader.Call.{Call}
use Rattle.teapot_lines.specs.declared.reader.Call.TheVariants.{One, Two}
use Rattle.teapot_lines.specs.declared.reader.Open.{Open}
use Rattle.teapot_lines.specs.declared.reader.Open.TheVariants.{Left, First, Second}
use Rattle.teapot_lines.specs.declared.reader.Next.{Next}
use Rattle.teapot_lines.specs.declared.reader.Next.TheVariants.{Expr, Bracket, After}
use Rattle.teapot_lines.specs.Seen.{Seen, Key, Named, Number, Marked}
use Rattle.teapot_lines.specs.Cuts.{leaf, one_of, two_of}

-- an operator between operands
abbrev pub operator : Mark → Option Op
operator m.Plus = Some o.Add
operator m.Minus = Some o.Sub
operator m.Equal = Some o.Eq
operator m.Unequal = Some o.Ne
operator m.Less = Some o.Lt
operator m.LessEqual = Some o.Le
operator m.Both = Some o.And
operator m.Either = Some o.Or
operator _ = None

abbrev pub State : Type 0
State = List Open × Next

-- a keyword where an expression is to begin
abbrev pub begun : Keyword → Option Next
begun k.True = Some (After (leaf e.True))
begun k.False = Some (After (leaf e.False))
begun k.Empty = Some (After (leaf e.Empty))
begun k.Src = Some (After (leaf e.Src))
begun k.SelfNode = Some (After (leaf e.SelfNode))
begun k.Home = Some (After (leaf e.Home))
begun k.One = Some (Bracket (One u.One))
begun k.Not = Some (Bracket (One u.Not))
begun k.Count = Some (Bracket (One u.Count))
begun k.Has = Some (Bracket (Two o.Has))
begun k.With = Some (Bracket (Two o.With))
begun k.Without = Some (Bracket (Two o.Without))
begun _ = None

abbrev pub at_begin : List Open → Seen → Option State
at_begin held (Number n) = if nat_lt n (2 ^ 32) then Some (held, After (leaf (e.Number n))) else None
at_begin held (Named w) = Some (held, After (leaf (e.Var w)))
at_begin held (Key key) = option_map (λ next. (held, next)) (begun key)
at_begin held (Marked m.Open) = Some (Left ∷ held, Expr)
at_begin held _ = None

abbrev pub at_bracket : List Open → Call → Seen → Option State
at_bracket held call (Marked m.Open) = Some (First call ∷ held, Expr)
at_bracket held call _ = None

-- a mark behind an expression, in the innermost bracket
abbrev pub behind : List Open → Open → Cut → Mark → Option State
behind held Left a mark = option_map (λ op. (Second op a ∷ held, Expr)) (operator mark)
behind held (First (One word)) a m.Close = Some (held, After (one_of word a))
behind held (First (Two op)) a m.Comma = Some (Second op a ∷ held, Expr)
behind held (Second op a) b m.Close = Some (held, After (two_of op a b))
behind held _ a _ = None

abbrev pub at_after : List Open → Cut → Seen → Option State
at_after (top ∷ held) a (Marked mark) = behind held top a mark
at_after _ a _ = None

-- a token in a state, or none where it is not allowed there
abbrev pub led_by : List Open → Next → Seen → Option State
led_by held Expr t = at_begin held t
led_by held (Bracket call) t = at_bracket held call t
led_by held (After a) t = at_after held a t

-- the expression, where no bracket is open
abbrev pub if_bare : List Open → Cut → Option Cut
if_bare [] a = Some a
if_bare (top ∷ held) a = None

abbrev pub whole : List Open → Next → Option Cut
whole held (After a) = if_bare held a
whole held Expr = None
whole held (Bracket call) = None

abbrev pub Found : Type 0
Found = Option (Cut × List Seen)

abbrev pub on_from : Option State → (List Open → Next → Found) → Found
on_from (Some s) go = go s.0 s.1
on_from None go = None

abbrev pub or_on : Option Cut → List Seen → Found → Found
or_on (Some a) rest found = Some (a, rest)
or_on None rest found = found

-- the expression at the front, and the tokens behind it
unfoldable pub read_from : List Open → Next → List Seen → Found
read_from held next [] = option_map (λ a. (a, [])) (whole held next)
read_from held next (t ∷ ts) = or_on (whole held next) (t ∷ ts) (on_from (led_by held next t) (λ o n. read_from o n ts))

abbrev pub read : List Seen → Found
read ts = read_from [] Expr ts
