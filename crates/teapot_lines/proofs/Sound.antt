-- What is read is spelled so.
use Rattle.std.proofs.Common.{◌≡◌, ℕ, ◌^◌, Bool, true, false, cond, List, [], ◌∷◌, ◌++◌, Option, Some, None, IfSome, refl, ap}
use Rattle.std.proofs.Common.{◌∙◌, subst, append_assoc}
use Rattle.std.specs.Prelude.{nat_lt, ◌&&◌}
use Rattle.std.specs.Option.{option_map}
use Rattle.teapot_tree.specs.declared.keyword.Keyword.{Keyword}
use Rattle.teapot_tree.specs.declared.keyword.Keyword.TheVariants as k
use Rattle.tw_lex.specs.declared.token.Mark.{Mark}
use Rattle.tw_lex.specs.declared.token.Mark.TheVariants as m
use Rattle.teapot_lines.specs.Seen.{Seen, Key, Named, Number, Marked}
use Rattle.teapot_tree.specs.declared.expr.Op.{Op}
use Rattle.teapot_tree.specs.declared.expr.Op.TheVariants as o
use Rattle.teapot_tree.specs.declared.expr.Expr.{Expr, roll-Expr}
use Rattle.teapot_tree.specs.declared.expr.Expr.TheOpen.{Expr-F}
use Rattle.teapot_tree.specs.declared.expr.Expr.TheVariants as e
use Rattle.teapot_lines.specs.declared.cut.Cut.{Cut}
use Rattle.teapot_lines.specs.declared.reader.Call.{Call}
use Rattle.teapot_lines.specs.declared.cut.Unary.{Unary}
use Rattle.teapot_lines.specs.declared.cut.Unary.TheVariants as u
use Rattle.teapot_lines.specs.declared.reader.Call.TheVariants.{One, Two}
use Rattle.teapot_lines.specs.declared.reader.Open.{Open}
use Rattle.teapot_lines.specs.declared.reader.Open.TheVariants.{Left, First, Second}
use Rattle.teapot_lines.specs.declared.reader.Next.{Next}
use Rattle.teapot_lines.specs.declared.reader.Next.TheVariants.{Expr as Begin, Bracket, After}
use Rattle.teapot_tree.specs.Parts.{fits}
use Rattle.teapot_lines.specs.Exprs.{spelled, Way, Infix, Before, way, one_spelled, two_spelled}
use Rattle.teapot_lines.specs.Cuts.{cut, leaf, applied, one_of, two_of}
use Rattle.teapot_lines.specs.Reading.{operator, at_begin, at_bracket, at_after, behind, led_by, whole, if_bare, or_on, on_from}
use Rattle.teapot_lines.specs.Reading.{State, Found, read_from, read}
use Rattle.teapot_lines.specs.Spelling.{Fronts}
use Rattle.teapot_lines.proofs.Spells.{spelled-roll, fits-roll, cut-roll}

-- the tokens spell the expression, of which this is kept
pub record Spells (x : Expr) (ts : List Seen) (a : Cut) : Type 0 where
  pub valid : fits x ≡ true
  pub text : spelled x ≡ ts
  pub kept : cut x ≡ a

rolled : (d : Expr-F Expr) (x : Expr) (text : List Seen) (a : Cut) → roll-Expr d ≡ x → fits (roll-Expr d) ≡ true →
    spelled (roll-Expr d) ≡ text → cut (roll-Expr d) ≡ a → Spells x text a
rolled d x text a is f t c = subst (λ y. Spells y text a) is (record { valid = f; text = t; kept = c })

spells_number : (n : ℕ) → nat_lt n (2 ^ 32) ≡ true → Spells (e.Number n) (Number n ∷ []) (leaf (e.Number n))
spells_number n h = rolled _ _ _ _ (e.rolls-Number n) (fits-roll (Expr-F.Number n) ∙ h) (spelled-roll _) (cut-roll _)

spells_true : Spells e.True (Key k.True ∷ []) (leaf e.True)
spells_true = rolled Expr-F.True _ _ _ e.rolls-True (fits-roll Expr-F.True) (spelled-roll Expr-F.True) (cut-roll Expr-F.True)

spells_false : Spells e.False (Key k.False ∷ []) (leaf e.False)
spells_false = rolled Expr-F.False _ _ _ e.rolls-False (fits-roll Expr-F.False) (spelled-roll Expr-F.False)
    (cut-roll Expr-F.False)

spells_empty : Spells e.Empty (Key k.Empty ∷ []) (leaf e.Empty)
spells_empty = rolled Expr-F.Empty _ _ _ e.rolls-Empty (fits-roll Expr-F.Empty) (spelled-roll Expr-F.Empty)
    (cut-roll Expr-F.Empty)

spells_src : Spells e.Src (Key k.Src ∷ []) (leaf e.Src)
spells_src = rolled Expr-F.Src _ _ _ e.rolls-Src (fits-roll Expr-F.Src) (spelled-roll Expr-F.Src) (cut-roll Expr-F.Src)

spells_self : Spells e.SelfNode (Key k.SelfNode ∷ []) (leaf e.SelfNode)
spells_self = rolled Expr-F.SelfNode _ _ _ e.rolls-SelfNode (fits-roll Expr-F.SelfNode) (spelled-roll Expr-F.SelfNode)
    (cut-roll Expr-F.SelfNode)

spells_home : Spells e.Home (Key k.Home ∷ []) (leaf e.Home)
spells_home = rolled Expr-F.Home _ _ _ e.rolls-Home (fits-roll Expr-F.Home) (spelled-roll Expr-F.Home) (cut-roll Expr-F.Home)

spells_var : (w : List ℕ) → Spells (e.Var w) (Named w ∷ []) (leaf (e.Var w))
spells_var w = rolled (Expr-F.Var w) _ _ _ (e.rolls-Var w) (fits-roll (Expr-F.Var w)) (spelled-roll (Expr-F.Var w))
    (cut-roll (Expr-F.Var w))

abbrev pub unary_word : Unary → Keyword
unary_word u.One = k.One
unary_word u.Not = k.Not
unary_word u.Count = k.Count

spells_one : (word : Unary) (x : Expr) (ts : List Seen) (a : Cut) → Spells x ts a →
    Spells (applied word x) (one_spelled (unary_word word) ts) (one_of word a)
spells_one u.One x ts a s = rolled (Expr-F.One x) _ _ _ (e.rolls-One x) (fits-roll (Expr-F.One x) ∙ s.valid)
    (spelled-roll (Expr-F.One x) ∙ ap (one_spelled k.One) s.text) (cut-roll (Expr-F.One x) ∙ ap (one_of u.One) s.kept)
spells_one u.Not x ts a s = rolled (Expr-F.Not x) _ _ _ (e.rolls-Not x) (fits-roll (Expr-F.Not x) ∙ s.valid)
    (spelled-roll (Expr-F.Not x) ∙ ap (one_spelled k.Not) s.text) (cut-roll (Expr-F.Not x) ∙ ap (one_of u.Not) s.kept)
spells_one u.Count x ts a s = rolled (Expr-F.Count x) _ _ _ (e.rolls-Count x) (fits-roll (Expr-F.Count x) ∙ s.valid)
    (spelled-roll (Expr-F.Count x) ∙ ap (one_spelled k.Count) s.text) (cut-roll (Expr-F.Count x) ∙ ap (one_of u.Count) s.kept)

spells_two : (op : Op) (x y : Expr) (ts us : List Seen) (a b : Cut) → Spells x ts a → Spells y us b →
    Spells (e.Two op x y) (two_spelled (way op) ts us) (two_of op a b)
spells_two op x y ts us a b s t = rolled (Expr-F.Two op x y) _ _ _ (e.rolls-Two op x y)
    (fits-roll (Expr-F.Two op x y) ∙ ap (λ c. c && fits y) s.valid ∙ t.valid)
    (spelled-roll (Expr-F.Two op x y) ∙ ap (λ vs. two_spelled (way op) vs (spelled y)) s.text
    ∙ ap (two_spelled (way op) ts) t.text)
    (cut-roll (Expr-F.Two op x y) ∙ ap (λ c. two_of op c (cut y)) s.kept ∙ ap (two_of op a) t.kept)

-- ---- what the tokens so far are, by the brackets that are open

abbrev pub word : Call → Keyword
word (One w) = unary_word w
word (Two o.With) = k.With
word (Two o.Without) = k.Without
word (Two _) = k.Has

abbrev pub front : Way → List Seen → List Seen
front (Infix mark) text = Marked m.Open ∷ (text ++ Marked mark ∷ [])
front (Before key) text = Key key ∷ Marked m.Open ∷ (text ++ Marked m.Comma ∷ [])

-- a call is that of a word
abbrev pub IsWord : Call → Type 0
IsWord (Two op) = way op ≡ Before (word (Two op))
IsWord (One w) = Unit {0}

abbrev pub Tops : Open → List Seen → List Seen → Type 0
Tops Left before done = done ≡ before ++ Marked m.Open ∷ []
Tops (First call) before done = (done ≡ before ++ (Key (word call) ∷ Marked m.Open ∷ [])) × IsWord call
Tops (Second op a) before done = (x : Expr) × (text : List Seen) × Spells x text a × (done ≡ before ++ front (way op) text)

abbrev pub Stands : List Open → List Seen → Type 0
Stands [] done = done ≡ []
Stands (top ∷ held) done = (before : List Seen) × Stands held before × Tops top before done

abbrev pub StandsAt : List Open → Next → List Seen → Type 0
StandsAt held Begin done = Stands held done
StandsAt held (Bracket call) done = (before : List Seen) × Stands held before × (done ≡ before ++ Key (word call) ∷ [])
    × IsWord call
StandsAt held (After a) done = (before : List Seen) × (x : Expr) × (text : List Seen) × Stands held before × Spells x text a
    × (done ≡ before ++ text)

-- each step adds its token
abbrev Adds : List Seen → Seen → Option State → Type 0
Adds done t o = IfSome o (λ s. StandsAt s.0 s.1 (done ++ t ∷ []))

if_below : (n : ℕ) (b : Bool) (done : List Seen) (held : List Open) → nat_lt n (2 ^ 32) ≡ b → Stands held done →
    Adds done (Number n) (cond b (Some (held, After (leaf (e.Number n)))) None)
if_below n true done held is s = (done, e.Number n, Number n ∷ [], s, spells_number n is, refl)
if_below n false done held is s = tt

begin_adds : (held : List Open) (t : Seen) (done : List Seen) → Stands held done → Adds done t (at_begin held t)
begin_adds held (Number n) done s = if_below n (nat_lt n (2 ^ 32)) done held refl s
begin_adds held (Named w) done s = (done, e.Var w, Named w ∷ [], s, spells_var w, refl)
begin_adds held (Key k.True) done s = (done, e.True, Key k.True ∷ [], s, spells_true, refl)
begin_adds held (Key k.False) done s = (done, e.False, Key k.False ∷ [], s, spells_false, refl)
begin_adds held (Key k.Empty) done s = (done, e.Empty, Key k.Empty ∷ [], s, spells_empty, refl)
begin_adds held (Key k.Src) done s = (done, e.Src, Key k.Src ∷ [], s, spells_src, refl)
begin_adds held (Key k.SelfNode) done s = (done, e.SelfNode, Key k.SelfNode ∷ [], s, spells_self, refl)
begin_adds held (Key k.Home) done s = (done, e.Home, Key k.Home ∷ [], s, spells_home, refl)
begin_adds held (Key k.One) done s = (done, s, refl, tt)
begin_adds held (Key k.Not) done s = (done, s, refl, tt)
begin_adds held (Key k.Count) done s = (done, s, refl, tt)
begin_adds held (Key k.Has) done s = (done, s, refl, refl)
begin_adds held (Key k.With) done s = (done, s, refl, refl)
begin_adds held (Key k.Without) done s = (done, s, refl, refl)
begin_adds held (Key _) done s = tt
begin_adds held (Marked m.Open) done s = (done, s, refl)
begin_adds held (Marked _) done s = tt

bracket_adds : (held : List Open) (call : Call) (t : Seen) (done : List Seen) → StandsAt held (Bracket call) done →
    Adds done t (at_bracket held call t)
bracket_adds held call (Marked m.Open) done (before, s, is, w) = (before, s, (rw is (simp append_assoc), w))
bracket_adds held call (Marked _) done s = tt
bracket_adds held call (Number _) done s = tt
bracket_adds held call (Named _) done s = tt
bracket_adds held call (Key _) done s = tt

-- behind an expression in a bracket
operator_adds : (mark : Mark) (held : List Open) (a : Cut) (before text done : List Seen) (x : Expr) → Stands held before →
    Spells x text a → done ≡ before ++ Marked m.Open ∷ [] ++ text
    → Adds done (Marked mark) (option_map (λ op. (Second op a ∷ held, Begin)) (operator mark))
operator_adds m.Plus held a before text done x s sp is = (before, s, (x, text, sp, rw is (simp append_assoc)))
operator_adds m.Minus held a before text done x s sp is = (before, s, (x, text, sp, rw is (simp append_assoc)))
operator_adds m.Equal held a before text done x s sp is = (before, s, (x, text, sp, rw is (simp append_assoc)))
operator_adds m.Unequal held a before text done x s sp is = (before, s, (x, text, sp, rw is (simp append_assoc)))
operator_adds m.Less held a before text done x s sp is = (before, s, (x, text, sp, rw is (simp append_assoc)))
operator_adds m.LessEqual held a before text done x s sp is = (before, s, (x, text, sp, rw is (simp append_assoc)))
operator_adds m.Both held a before text done x s sp is = (before, s, (x, text, sp, rw is (simp append_assoc)))
operator_adds m.Either held a before text done x s sp is = (before, s, (x, text, sp, rw is (simp append_assoc)))
operator_adds _ held a before text done x s sp is = tt

two_front : (w : Way) (ts us : List Seen) → front w ts ++ us ++ Marked m.Close ∷ [] ≡ two_spelled w ts us
two_front (Infix mark) ts us = simp append_assoc
two_front (Before key) ts us = simp append_assoc

behind_adds : (held : List Open) (top : Open) (a : Cut) (mark : Mark) (before begin text done : List Seen) (x : Expr) →
    Stands held before → Tops top before begin → Spells x text a
    → done ≡ begin ++ text → Adds done (Marked mark) (behind held top a mark)
behind_adds held Left a mark before begin text done x s top sp is =
    operator_adds mark held a before text done x s sp (rw top at is)
behind_adds held (First (One w)) a m.Close before begin text done x s top sp is =
    (before, applied w x, _, s, spells_one w x text a sp, rw (is, top.0) (simp append_assoc))
behind_adds held (First (One w)) a _ before begin text done x s top sp is = tt
behind_adds held (First (Two op)) a m.Comma before begin text done x s top sp is =
    (before, s, (x, text, sp, rw (is, top.0, top.1) (simp append_assoc)))
behind_adds held (First (Two op)) a _ before begin text done x s top sp is = tt
behind_adds held (Second op b) a m.Close before begin text done x s top sp is = (
  before,
  e.Two op top.0 x,
  _,
  s,
  spells_two op top.0 x top.1 text b a top.2 sp,
  rw (is, top.3, ← two_front (way op) top.1 text) (simp append_assoc),
)
behind_adds held (Second op b) a _ before begin text done x s top sp is = tt

after_adds : (held : List Open) (a : Cut) (t : Seen) (done : List Seen) → StandsAt held (After a) done →
    Adds done t (at_after held a t)
after_adds [] a t done s = tt
after_adds (top ∷ held) a (Marked mark) done (begin, x, text, s, sp, is) =
    behind_adds held top a mark s.0 begin text done x s.1 s.2 sp is
after_adds (top ∷ held) a (Number _) done s = tt
after_adds (top ∷ held) a (Named _) done s = tt
after_adds (top ∷ held) a (Key _) done s = tt

led_adds : (held : List Open) (next : Next) (t : Seen) (done : List Seen) → StandsAt held next done →
    Adds done t (led_by held next t)
led_adds held Begin t done s = begin_adds held t done s
led_adds held (Bracket call) t done s = bracket_adds held call t done s
led_adds held (After a) t done s = after_adds held a t done s

-- ---- what was found

bare-fronts : (held : List Open) (a : Cut) (done ts : List Seen) → StandsAt held (After a) done →
    IfSome (if_bare held a) (λ b. Fronts (done ++ ts) (b, ts))
bare-fronts [] a done ts (before, x, text, s, sp, is) = (x, sp.valid, sp.kept, rw (is, s, sp.text) refl)
bare-fronts (top ∷ held) a done ts s = tt

whole-fronts : (held : List Open) (next : Next) (done ts : List Seen) → StandsAt held next done →
    IfSome (whole held next) (λ b. Fronts (done ++ ts) (b, ts))
whole-fronts held (After a) done ts s = bare-fronts held a done ts s
whole-fronts held Begin done ts s = tt
whole-fronts held (Bracket call) done ts s = tt

map-fronts : (o : Option Cut) (done : List Seen) → IfSome o (λ b. Fronts (done ++ []) (b, [])) →
    IfSome (option_map (λ a. (a, [])) o) (Fronts (done ++ []))
map-fronts None done h = tt
map-fronts (Some a) done h = h

or-fronts : (o : Option Cut) (all ts : List Seen) (found : Found) → IfSome o (λ b. Fronts all (b, ts)) →
    IfSome found (Fronts all) → IfSome (or_on o ts found) (Fronts all)
or-fronts None all ts found h k = k
or-fronts (Some a) all ts found h k = h

on-fronts : (o : Option State) (done : List Seen) (t : Seen) (all : List Seen) (go : List Open → Next → Found) → Adds done t o
    → ((held : List Open) (next : Next) → StandsAt held next (done ++ t ∷ []) → IfSome (go held next) (Fronts all)) →
    IfSome (on_from o go) (Fronts all)
on-fronts None done t all go h k = tt
on-fronts (Some s) done t all go h k = k s.0 s.1 h

pub from-fronts : (ts : List Seen) (held : List Open) (next : Next) (done : List Seen) → StandsAt held next done →
    IfSome (read_from held next ts) (Fronts (done ++ ts))
unfolding read_from
from-fronts [] held next done s = map-fronts (whole held next) done (whole-fronts held next done [] s)
from-fronts (t ∷ ts) held next done s =
    let regroup : done ++ t ∷ [] ++ ts ≡ done ++ (t ∷ ts) = append_assoc done (t ∷ []) ts in
    or-fronts (whole held next) (done ++ (t ∷ ts)) (t ∷ ts) _ (whole-fronts held next done (t ∷ ts) s)
    (on-fronts (led_by held next t) done t (done ++ (t ∷ ts)) _ (led_adds held next t done s)
    (λ to then z. subst (λ all. IfSome (read_from to then ts) (Fronts all)) regroup
    (from-fronts ts to then (done ++ t ∷ []) z)))

-- What is read is spelled so.
pub read-fronts : (ts : List Seen) (a : Cut) (rest : List Seen) → read ts ≡ Some (a, rest) → Fronts ts (a, rest)
read-fronts ts a rest e = subst (λ found. IfSome found (Fronts ts)) e (from-fronts ts [] Begin [] refl)
