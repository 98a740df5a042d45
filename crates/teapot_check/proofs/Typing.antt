-- Of an expression with a type each name is that of a variable.
use Rattle.std.proofs.Common.{◌≡◌, Bool, true, false, List, Option, Some, None, is_some, refl, ap, sym, ◌∙◌, subst}
use Rattle.std.specs.Prelude.{◌&&◌}
use Rattle.std.specs.Option.{option_and_then}
use Rattle.teapot_tree.specs.declared.expr.Expr.{Expr, roll-Expr}
use Rattle.teapot_tree.specs.declared.expr.Expr.TheOpen.{Expr-F}
use Rattle.teapot_tree.specs.declared.expr.Expr.TheFolds.{fold-roll-Expr, ind-Expr, map-Expr}
use Rattle.teapot_tree.specs.declared.expr.Op.{Op}
use Rattle.teapot_tree.specs.declared.expr.Op.TheVariants.{Add, Sub, Eq, Ne, Lt, Le, And, Or, Has, With, Without}
use Rattle.teapot_tree.specs.declared.protocol.ValType.{ValType}
use Rattle.teapot_tree.specs.declared.protocol.ValType.TheVariants.{Int, Node, Set, Bool as Truth}
use Rattle.teapot_tree.specs.Scopes.{Variable, are_alike, is_of, type_of, type_of_two, type_step, variable, where_of}
use Rattle.teapot_rules.specs.Names.{all_seen, seen_step}

pub both_left : (a b : Bool) → (a && b) ≡ true → a ≡ true
both_left true b e = refl
both_left false b e = e

pub both_right : (a b : Bool) → (a && b) ≡ true → b ≡ true
both_right true b e = e
both_right false b e = absurd (cc)

pub of_some : (t : ValType) (found : Option ValType) → is_of t found ≡ true → is_some found ≡ true
of_some t None e = absurd (cc)
of_some t (Some u) e = refl

where-holds : (b : Bool) (t : ValType) → is_some (where_of b t) ≡ true → b ≡ true
where-holds true t e = refl
where-holds false t e = e

variable-some : (o : Option Variable) → is_some (option_and_then (λ (v : Variable). v.ty) o) ≡ true → is_some o ≡ true
variable-some None e = e
variable-some (Some v) e = refl

abbrev Both : Option ValType → Option ValType → Type 0
Both a b = (is_some a ≡ true) × (is_some b ≡ true)

of-both : (t u v : ValType) (a b : Option ValType) → is_some (where_of (is_of t a && is_of u b) v) ≡ true → Both a b
of-both t u v a b e =
    let k = where-holds (is_of t a && is_of u b) v e in
    (of_some t a (both_left (is_of t a) (is_of u b) k), of_some u b (both_right (is_of t a) (is_of u b) k))

alike-both : (v : ValType) (a b : Option ValType) → is_some (where_of (are_alike a b) v) ≡ true → Both a b
alike-both v None b e = absurd (cc)
alike-both v (Some t) b e = (refl, of_some t b (where-holds (is_of t b) v e))

two-both : (op : Op) (a b : Option ValType) → is_some (type_of_two op a b) ≡ true → Both a b
two-both Add a b = of-both Int Int Int a b
two-both Sub a b = of-both Int Int Int a b
two-both Eq a b = alike-both Truth a b
two-both Ne a b = alike-both Truth a b
two-both Lt a b = of-both Int Int Truth a b
two-both Le a b = of-both Int Int Truth a b
two-both And a b = of-both Truth Truth Truth a b
two-both Or a b = of-both Truth Truth Truth a b
two-both Has a b = of-both Set Node Truth a b
two-both With a b = of-both Set Node Set a b
two-both Without a b = of-both Set Node Set a b

all_seen-roll : (vs : List Variable) (x : Expr-F Expr) → all_seen vs (roll-Expr x)
    ≡ seen_step vs (map-Expr Expr Bool (all_seen vs) x)
unfolding all_seen
all_seen-roll vs x = fold-roll-Expr Bool (seen_step vs) x

type-roll : (vs : List Variable) (x : Expr-F Expr)
    → type_of vs (roll-Expr x) ≡ type_step vs (map-Expr Expr (Option ValType) (type_of vs) x)
unfolding type_of
type-roll vs x = fold-roll-Expr (Option ValType) (type_step vs) x

abbrev Sees : List Variable → Expr → Type 0
Sees vs e = is_some (type_of vs e) ≡ true → all_seen vs e ≡ true

abbrev Part : List Variable → Type 0
Part vs = (e : Expr) × Sees vs e

abbrev whole_of : (vs : List Variable) → Expr-F (Part vs) → Expr-F Expr
whole_of vs = map-Expr (Part vs) Expr (λ p. p.0)

level : (vs : List Variable) (y : Expr-F (Part vs))
    → is_some (type_step vs (map-Expr Expr (Option ValType) (type_of vs) (whole_of vs y))) ≡ true
    → seen_step vs (map-Expr Expr Bool (all_seen vs) (whole_of vs y)) ≡ true
level vs (Expr-F.Number n) e = refl
level vs Expr-F.True e = refl
level vs Expr-F.False e = refl
level vs Expr-F.Empty e = refl
level vs Expr-F.Src e = refl
level vs Expr-F.SelfNode e = refl
level vs Expr-F.Home e = refl
level vs (Expr-F.Var n) e = variable-some (variable vs n) e
level vs (Expr-F.One a) e = a.1 (of_some Node (type_of vs a.0) (where-holds (is_of Node (type_of vs a.0)) Set e))
level vs (Expr-F.Not a) e = a.1 (of_some Truth (type_of vs a.0) (where-holds (is_of Truth (type_of vs a.0)) Truth e))
level vs (Expr-F.Count a) e = a.1 (of_some Set (type_of vs a.0) (where-holds (is_of Set (type_of vs a.0)) Int e))
level vs (Expr-F.Two op a b) e =
    let both = two-both op (type_of vs a.0) (type_of vs b.0) e in
    ap (λ z. z && all_seen vs b.0) (a.1 both.0) ∙ b.1 both.1

sees-at : (vs : List Variable) (y : Expr-F (Part vs)) → Sees vs (roll-Expr (whole_of vs y))
sees-at vs y e = all_seen-roll vs (whole_of vs y) ∙ level vs y (sym (ap is_some (type-roll vs (whole_of vs y))) ∙ e)

pub typed_is_seen : (vs : List Variable) (e : Expr) → Sees vs e
typed_is_seen vs = ind-Expr (Sees vs) (λ x y is. subst (λ z. Sees vs (roll-Expr z)) is (sees-at vs y))
