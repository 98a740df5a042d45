-- What is spelled is read.
use Rattle.std.proofs.Common.{◌≡◌, Bool, true, false, List, [], ◌∷◌, ◌++◌, Some, refl, ap, sym, ◌∙◌, subst, append_assoc}
use Rattle.std.specs.Prelude.{◌&&◌}
use Rattle.teapot_tree.specs.declared.keyword.Keyword.{Keyword}
use Rattle.teapot_tree.specs.declared.keyword.Keyword.TheVariants as k
use Rattle.tw_lex.specs.declared.token.Mark.{Mark}
use Rattle.tw_lex.specs.declared.token.Mark.TheVariants as m
use Rattle.teapot_lines.specs.Seen.{Seen, Key, Marked}
use Rattle.teapot_tree.specs.declared.expr.Op.{Op}
use Rattle.teapot_tree.specs.declared.expr.Op.TheVariants as o
use Rattle.teapot_tree.specs.declared.expr.Expr.{Expr, roll-Expr}
use Rattle.teapot_tree.specs.declared.expr.Expr.TheOpen.{Expr-F}
use Rattle.teapot_tree.specs.declared.expr.Expr.TheFolds.{fold-roll-Expr, ind-Expr, map-Expr}
use Rattle.teapot_lines.specs.declared.cut.Cut.{Cut}
use Rattle.teapot_lines.specs.declared.cut.Unary.{Unary}
use Rattle.teapot_lines.specs.declared.cut.Unary.TheVariants as u
use Rattle.teapot_lines.specs.declared.reader.Call.TheVariants.{One, Two}
use Rattle.teapot_lines.specs.declared.reader.Open.{Open}
use Rattle.teapot_lines.specs.declared.reader.Open.TheVariants.{Left, First, Second}
use Rattle.teapot_lines.specs.declared.reader.Next.TheVariants.{Expr as Begin, Bracket, After}
use Rattle.teapot_tree.specs.Parts.{fits, fits_step}
use Rattle.teapot_lines.specs.Exprs.{spelled, spelled_step, Infix, Before, way, one_spelled, two_spelled}
use Rattle.teapot_lines.specs.Cuts.{cut, cut_step, one_of, two_of}
use Rattle.teapot_lines.specs.Reading.{operator, begun, read_from, read}
use Rattle.teapot_lines.proofs.Turns.{turn-whole}

-- reading these tokens where an expression may begin leads on as if this was read
abbrev pub Leads : List Seen → Cut → Type 0
Leads ts a = (held : List Open) (rest : List Seen) → read_from held Begin (ts ++ rest) ≡ read_from held (After a) rest

infix-leads : (op : Op) (mark : Mark) (ts us : List Seen) (a b : Cut) → operator mark ≡ Some op → Leads ts a → Leads us b →
    Leads (two_spelled (Infix mark) ts us) (two_of op a b)
unfolding read_from
infix-leads op mark ts us a b is left right held rest =
    let regroup : two_spelled (Infix mark) ts us ++ rest ≡ Marked m.Open ∷
    (ts ++ (Marked mark ∷ (us ++ (Marked m.Close ∷ rest)))) = simp append_assoc in
    let turn : read_from (Left ∷ held) (After a) (Marked mark ∷ (us ++ (Marked m.Close ∷ rest)))
    ≡ read_from (Second op a ∷ held) Begin (us ++ (Marked m.Close ∷ rest)) = rw is refl in
    ap (read_from held Begin) regroup ∙ left (Left ∷ held) _ ∙ turn ∙ right (Second op a ∷ held) (Marked m.Close ∷ rest)

word-leads : (op : Op) (key : Keyword) (ts us : List Seen) (a b : Cut) → begun key ≡ Some (Bracket (Two op)) → Leads ts a →
    Leads us b → Leads (two_spelled (Before key) ts us) (two_of op a b)
unfolding read_from
word-leads op key ts us a b is left right held rest =
    let regroup : two_spelled (Before key) ts us ++ rest ≡ Key key ∷ Marked m.Open ∷
    (ts ++ (Marked m.Comma ∷ (us ++ (Marked m.Close ∷ rest)))) = simp append_assoc in
    let turn : read_from held Begin (Key key ∷ Marked m.Open ∷ (ts ++ (Marked m.Comma ∷ (us ++ (Marked m.Close ∷ rest)))))
    ≡ read_from (First (Two op) ∷ held) Begin (ts ++ (Marked m.Comma ∷ (us ++ (Marked m.Close ∷ rest)))) = rw is refl in
    ap (read_from held Begin) regroup ∙ turn ∙ left (First (Two op) ∷ held) _ ∙ right (Second op a ∷ held) (Marked m.Close ∷ rest)

two-leads : (op : Op) (ts us : List Seen) (a b : Cut) → Leads ts a → Leads us b →
    Leads (two_spelled (way op) ts us) (two_of op a b)
two-leads o.Add ts us a b = infix-leads o.Add m.Plus ts us a b refl
two-leads o.Sub ts us a b = infix-leads o.Sub m.Minus ts us a b refl
two-leads o.Eq ts us a b = infix-leads o.Eq m.Equal ts us a b refl
two-leads o.Ne ts us a b = infix-leads o.Ne m.Unequal ts us a b refl
two-leads o.Lt ts us a b = infix-leads o.Lt m.Less ts us a b refl
two-leads o.Le ts us a b = infix-leads o.Le m.LessEqual ts us a b refl
two-leads o.And ts us a b = infix-leads o.And m.Both ts us a b refl
two-leads o.Or ts us a b = infix-leads o.Or m.Either ts us a b refl
two-leads o.Has ts us a b = word-leads o.Has k.Has ts us a b refl
two-leads o.With ts us a b = word-leads o.With k.With ts us a b refl
two-leads o.Without ts us a b = word-leads o.Without k.Without ts us a b refl

one-leads : (word : Unary) (key : Keyword) (ts : List Seen) (a : Cut) → begun key ≡ Some (Bracket (One word)) → Leads ts a →
    Leads (one_spelled key ts) (one_of word a)
unfolding read_from
one-leads word key ts a is inner held rest =
    let regroup : one_spelled key ts ++ rest ≡ Key key ∷ Marked m.Open ∷ (ts ++ (Marked m.Close ∷ rest)) = simp append_assoc in
    let turn : read_from held Begin (Key key ∷ Marked m.Open ∷ (ts ++ (Marked m.Close ∷ rest)))
    ≡ read_from (First (One word) ∷ held) Begin (ts ++ (Marked m.Close ∷ rest)) = rw is refl in
    ap (read_from held Begin) regroup ∙ turn ∙ inner (First (One word) ∷ held) (Marked m.Close ∷ rest)

both : (a b : Bool) → (a && b) ≡ true → (a ≡ true) × (b ≡ true)
both true b e = (refl, e)
both false b e = absurd cc

-- A fact of an expression that fits, one level at a time.
abbrev Read : Expr → Type 0
Read e = fits e ≡ true → Leads (spelled e) (cut e)

pub spelled-roll : (x : Expr-F Expr) → spelled (roll-Expr x) ≡ spelled_step (map-Expr Expr (List Seen) spelled x)
unfolding spelled
spelled-roll x = fold-roll-Expr (List Seen) spelled_step x

pub fits-roll : (x : Expr-F Expr) → fits (roll-Expr x) ≡ fits_step (map-Expr Expr Bool fits x)
unfolding fits
fits-roll x = fold-roll-Expr Bool fits_step x

pub cut-roll : (x : Expr-F Expr) → cut (roll-Expr x) ≡ cut_step (map-Expr Expr Cut cut x)
unfolding cut
cut-roll x = fold-roll-Expr Cut cut_step x

-- the level's parts, each with its fact
abbrev Part : Type 0
Part = (e : Expr) × Read e

abbrev whole_of : Expr-F Part → Expr-F Expr
whole_of = map-Expr Part Expr (λ p. p.0)

level : (y : Expr-F Part) → fits_step (map-Expr Expr Bool fits (whole_of y)) ≡ true →
    Leads (spelled_step (map-Expr Expr (List Seen) spelled (whole_of y))) (cut_step (map-Expr Expr Cut cut (whole_of y)))
unfolding read_from
level (Expr-F.Number n) e = λ held rest. rw e refl
level Expr-F.True e = λ held rest. refl
level Expr-F.False e = λ held rest. refl
level Expr-F.Empty e = λ held rest. refl
level Expr-F.Src e = λ held rest. refl
level Expr-F.SelfNode e = λ held rest. refl
level Expr-F.Home e = λ held rest. refl
level (Expr-F.Var w) e = λ held rest. refl
level (Expr-F.One a) e = one-leads u.One k.One (spelled a.0) (cut a.0) refl (a.1 e)
level (Expr-F.Not a) e = one-leads u.Not k.Not (spelled a.0) (cut a.0) refl (a.1 e)
level (Expr-F.Count a) e = one-leads u.Count k.Count (spelled a.0) (cut a.0) refl (a.1 e)
level (Expr-F.Two op a b) e =
    let w = both (fits a.0) (fits b.0) e in
    two-leads op (spelled a.0) (spelled b.0) (cut a.0) (cut b.0) (a.1 w.0) (b.1 w.1)

at_level : (y : Expr-F Part) → Read (roll-Expr (whole_of y))
at_level y e = rw (spelled-roll (whole_of y), cut-roll (whole_of y)) (level y (sym (fits-roll (whole_of y)) ∙ e))

pub spelled-leads : (e : Expr) → fits e ≡ true → Leads (spelled e) (cut e)
spelled-leads = ind-Expr Read (λ x y is. subst (λ z. Read (roll-Expr z)) is (at_level y))

pub read_spelled : (e : Expr) (rest : List Seen) → fits e ≡ true → read (spelled e ++ rest) ≡ Some (cut e, rest)
read_spelled e rest h = spelled-leads e h [] rest ∙ turn-whole [] (After (cut e)) (cut e) rest refl
