-- The values of expressions have their types.
use Rattle.std.proofs.Common.{◌≡◌, ◌∙◌, ℕ, Bool, true, false, List, [], ◌∷◌, Option, Some, None, length, map, refl, ap, sym}
use Rattle.std.proofs.Common.{subst, arith}
use Rattle.std.specs.Prelude.{codes, ◌&&◌}
use Rattle.tw_base.specs.declared.name.Name.{Name}
use Rattle.tw_base.specs.declared.value.Value.{Value}
use Rattle.tw_base.specs.declared.value.Value.TheVariants as v
use Rattle.teapot_tree.specs.declared.expr.Expr.{Expr, roll-Expr}
use Rattle.teapot_tree.specs.declared.expr.Expr.TheOpen.{Expr-F}
use Rattle.teapot_tree.specs.declared.expr.Expr.TheFolds.{fold-roll-Expr, ind-Expr, map-Expr}
use Rattle.teapot_tree.specs.declared.expr.Op.{Op}
use Rattle.teapot_tree.specs.declared.expr.Op.TheVariants.{Add, Sub, Eq, Ne, Lt, Le, And, Or, Has, With, Without}
use Rattle.teapot_tree.specs.declared.protocol.ValType.{ValType}
use Rattle.teapot_tree.specs.declared.protocol.ValType.TheVariants as ty
use Rattle.teapot_tree.specs.Rules.{are_fit, type_in, types_in}
use Rattle.teapot_tree.specs.Scopes.{Scope, are_alike, is_of, same_type, type_of_two, type_step, type_among, visible, where_of}
use Rattle.teapot_tree.specs.Scopes.{type_of as expr_type}
use Rattle.teapot_meaning.specs.declared.state.Running.{Running}
use Rattle.teapot_meaning.specs.Fits.{type_of}
use Rattle.teapot_meaning.specs.Steps.{values_of}
use Rattle.teapot_meaning.proofs.Found.{first_of_both, second_of_both}
use Rattle.teapot_meaning.specs.Values.{count_of, not_of, one_of, two_of, value_of, value_step, variable}

pub is_of_same : (t u : ValType) → same_type t u ≡ true → u ≡ t
is_of_same ty.Int ty.Int e = refl
is_of_same ty.Int ty.Bool e = cc
is_of_same ty.Int ty.Node e = cc
is_of_same ty.Int ty.Set e = cc
is_of_same ty.Bool ty.Int e = cc
is_of_same ty.Bool ty.Bool e = refl
is_of_same ty.Bool ty.Node e = cc
is_of_same ty.Bool ty.Set e = cc
is_of_same ty.Node ty.Int e = cc
is_of_same ty.Node ty.Bool e = cc
is_of_same ty.Node ty.Node e = refl
is_of_same ty.Node ty.Set e = cc
is_of_same ty.Set ty.Int e = cc
is_of_same ty.Set ty.Bool e = cc
is_of_same ty.Set ty.Node e = cc
is_of_same ty.Set ty.Set e = refl

pub is_of_some : (t : ValType) (a : Option ValType) → is_of t a ≡ true → a ≡ Some t
is_of_some t None e = cc
is_of_some t (Some u) e = ap (λ x. Some x) (is_of_same t u e)

-- ---- operators

-- an operator on operands of types
abbrev Tells : Value → Option ValType → Type 0
Tells x a = (t : ValType) → a ≡ Some t → type_of x ≡ t

pub where_known : (b : Bool) (t u : ValType) → where_of b t ≡ Some u → (b ≡ true) × (t ≡ u)
where_known true t u e = (refl, cc)
where_known false t u e = cc

one_typed : (x : Value) → type_of x ≡ ty.Node → type_of (one_of x) ≡ ty.Set
one_typed (v.Node n) e = refl
one_typed (v.Int n) e = cc
one_typed (v.Bool b) e = cc
one_typed (v.Set s) e = cc

not_typed : (x : Value) → type_of x ≡ ty.Bool → type_of (not_of x) ≡ ty.Bool
not_typed (v.Bool b) e = refl
not_typed (v.Int n) e = cc
not_typed (v.Node n) e = cc
not_typed (v.Set s) e = cc

count_typed : (x : Value) → type_of x ≡ ty.Set → type_of (count_of x) ≡ ty.Int
count_typed (v.Set s) e = refl
count_typed (v.Int n) e = cc
count_typed (v.Bool b) e = cc
count_typed (v.Node n) e = cc

ints : (op : Op) (t : ValType) → ((m n : ℕ) → type_of (two_of op (v.Int m) (v.Int n)) ≡ t) → (x y : Value) →
    type_of x ≡ ty.Int → type_of y ≡ ty.Int → type_of (two_of op x y) ≡ t
ints op t f (v.Int m) (v.Int n) e g = f m n
ints op t f (v.Int m) (v.Bool b) e g = cc
ints op t f (v.Int m) (v.Node n) e g = cc
ints op t f (v.Int m) (v.Set s) e g = cc
ints op t f (v.Bool b) y e g = cc
ints op t f (v.Node n) y e g = cc
ints op t f (v.Set s) y e g = cc

bools : (op : Op) (t : ValType) → ((m n : Bool) → type_of (two_of op (v.Bool m) (v.Bool n)) ≡ t) → (x y : Value) →
    type_of x ≡ ty.Bool → type_of y ≡ ty.Bool → type_of (two_of op x y) ≡ t
bools op t f (v.Bool m) (v.Bool n) e g = f m n
bools op t f (v.Bool m) (v.Int b) e g = cc
bools op t f (v.Bool m) (v.Node n) e g = cc
bools op t f (v.Bool m) (v.Set s) e g = cc
bools op t f (v.Int b) y e g = cc
bools op t f (v.Node n) y e g = cc
bools op t f (v.Set s) y e g = cc

sets : (op : Op) (t : ValType) → ((s : List Bool) (n : ℕ) → type_of (two_of op (v.Set s) (v.Node n)) ≡ t) → (x y : Value) →
    type_of x ≡ ty.Set → type_of y ≡ ty.Node → type_of (two_of op x y) ≡ t
sets op t f (v.Set s) (v.Node n) e g = f s n
sets op t f (v.Set s) (v.Bool b) e g = cc
sets op t f (v.Set s) (v.Int n) e g = cc
sets op t f (v.Set s) (v.Set u) e g = cc
sets op t f (v.Bool b) y e g = cc
sets op t f (v.Node n) y e g = cc
sets op t f (v.Int s) y e g = cc

pub both_known : (p q : ValType) (t u : ValType) (a b : Option ValType) → where_of (is_of p a && is_of q b) t ≡ Some u →
    (a ≡ Some p) × (b ≡ Some q) × (t ≡ u)
both_known p q t u a b e = by_tests (is_of p a) (is_of q b) refl refl (where_known _ t u e)
  where
    by_tests : (m n : Bool) → is_of p a ≡ m → is_of q b ≡ n → (m && n ≡ true) × (t ≡ u) → (a ≡ Some p) × (b ≡ Some q) × (t ≡ u)
    by_tests true true g h k = (is_of_some p a g, is_of_some q b h, k.1)
    by_tests true false g h k = cc (k.0)
    by_tests false n g h k = cc (k.0)

alike_known : (u : ValType) (a b : Option ValType) → where_of (are_alike a b) ty.Bool ≡ Some u → ty.Bool ≡ u
alike_known u a b e = (where_known (are_alike a b) ty.Bool u e).1

two_typed : (op : Op) (x y : Value) (a b : Option ValType) → Tells x a → Tells y b → Tells (two_of op x y) (type_of_two op a b)
two_typed Add x y a b f g t e = let k = both_known ty.Int ty.Int ty.Int t a b e in ints Add ty.Int (λ m n. refl) x y (f _ k.0)
    (g _ k.1) ∙ k.2
two_typed Sub x y a b f g t e = let k = both_known ty.Int ty.Int ty.Int t a b e in ints Sub ty.Int (λ m n. refl) x y (f _ k.0)
    (g _ k.1) ∙ k.2
two_typed Eq x y a b f g t e = alike_known t a b e
two_typed Ne x y a b f g t e = alike_known t a b e
two_typed Lt x y a b f g t e = let k = both_known ty.Int ty.Int ty.Bool t a b e in ints Lt ty.Bool (λ m n. refl) x y (f _ k.0)
    (g _ k.1) ∙ k.2
two_typed Le x y a b f g t e = let k = both_known ty.Int ty.Int ty.Bool t a b e in ints Le ty.Bool (λ m n. refl) x y (f _ k.0)
    (g _ k.1) ∙ k.2
two_typed And x y a b f g t e = let k = both_known ty.Bool ty.Bool ty.Bool t a b e in bools And ty.Bool (λ m n. refl) x y
    (f _ k.0) (g _ k.1) ∙ k.2
two_typed Or x y a b f g t e = let k = both_known ty.Bool ty.Bool ty.Bool t a b e in bools Or ty.Bool (λ m n. refl) x y
    (f _ k.0) (g _ k.1) ∙ k.2
two_typed Has x y a b f g t e = let k = both_known ty.Set ty.Node ty.Bool t a b e in sets Has ty.Bool (λ m n. refl) x y
    (f _ k.0) (g _ k.1) ∙ k.2
two_typed With x y a b f g t e = let k = both_known ty.Set ty.Node ty.Set t a b e in sets With ty.Set (λ m n. refl) x y
    (f _ k.0) (g _ k.1) ∙ k.2
two_typed Without x y a b f g t e = let k = both_known ty.Set ty.Node ty.Set t a b e in sets Without ty.Set (λ m n. refl) x y
    (f _ k.0) (g _ k.1) ∙ k.2

pub one_known : (p t u : ValType) (a : Option ValType) → where_of (is_of p a) t ≡ Some u → (a ≡ Some p) × (t ≡ u)
one_known p t u a e = let k = where_known (is_of p a) t u e in (is_of_some p a k.0, k.1)

-- ---- expressions

-- where the names and the sender have their types
pub record ReadsTyped (c : Scope) (r : Running) : Type 0 where
  pub sender : type_of (variable c.protocol r (codes "src")) ≡ ty.Node
  pub names : (n : Name) (t : ValType) → type_among (visible c) n ≡ Some t → type_of (variable c.protocol r n) ≡ t

module _ (c : Scope) (r : Running) (reads : ReadsTyped c r) where
  abbrev pub Holds : Expr → Type 0
  Holds e = Tells (value_of c.protocol r e) (type_in c e)

  abbrev Part : Type 0
  Part = (e : Expr) × Holds e

  abbrev whole_of : Expr-F Part → Expr-F Expr
  whole_of = map-Expr Part Expr (λ p. p.0)

  value-roll : (x : Expr-F Expr) → value_of c.protocol r (roll-Expr x)
      ≡ value_step c.protocol r (map-Expr Expr Value (value_of c.protocol r) x)
  unfolding value_of
  value-roll x = fold-roll-Expr Value (value_step c.protocol r) x

  type-roll : (x : Expr-F Expr) → expr_type (visible c) (roll-Expr x)
      ≡ type_step (visible c) (map-Expr Expr (Option ValType) (expr_type (visible c)) x)
  unfolding expr_type
  type-roll x = fold-roll-Expr (Option ValType) (type_step (visible c)) x

  level : (y : Expr-F Part) → Tells (value_step c.protocol r (map-Expr Expr Value (value_of c.protocol r) (whole_of y)))
      (type_step (visible c) (map-Expr Expr (Option ValType) (expr_type (visible c)) (whole_of y)))
  level (Expr-F.Number n) t e = cc
  level Expr-F.True t e = cc
  level Expr-F.False t e = cc
  level Expr-F.Empty t e = cc
  level Expr-F.Src t e = let k : ty.Node ≡ t = cc in reads.sender ∙ k
  level Expr-F.SelfNode t e = cc
  level Expr-F.Home t e = cc
  level (Expr-F.Var n) t e = reads.names n t e
  level (Expr-F.One a) t e = let k = one_known ty.Node ty.Set t (type_in c a.0) e in one_typed (value_of c.protocol r a.0)
      (a.1 _ k.0) ∙ k.1
  level (Expr-F.Not a) t e = let k = one_known ty.Bool ty.Bool t (type_in c a.0) e in not_typed (value_of c.protocol r a.0)
      (a.1 _ k.0) ∙ k.1
  level (Expr-F.Count a) t e = let k = one_known ty.Set ty.Int t (type_in c a.0) e in count_typed (value_of c.protocol r a.0)
      (a.1 _ k.0) ∙ k.1
  level (Expr-F.Two op a b) t e = two_typed op (value_of c.protocol r a.0) (value_of c.protocol r b.0) (type_in c a.0)
      (type_in c b.0) a.1 b.1 t e

  at_level : (y : Expr-F Part) → Holds (roll-Expr (whole_of y))
  at_level y t e = ap type_of (value-roll (whole_of y)) ∙ level y t (sym (type-roll (whole_of y)) ∙ e)

  pub value_typed : (e : Expr) → Holds e
  value_typed = ind-Expr Holds (λ x y is. subst (λ z. Holds (roll-Expr z)) is (at_level y))

  -- arguments, of as many as are declared
  pub args_typed : (ts : List ValType) (es : List Expr) → are_fit ts (types_in c es) ≡ true → length es ≡ length ts →
      map type_of (values_of c.protocol r es) ≡ ts
  args_typed [] [] f n = refl
  args_typed [] (e ∷ es) f n = absurd (omega arith)
  args_typed (t ∷ ts) [] f n = absurd (omega arith)
  args_typed (t ∷ ts) (e ∷ es) f n =
      let head : type_of (value_of c.protocol r e) ≡ t = value_typed e t
      (is_of_some t (type_in c e) (first_of_both (is_of t (type_in c e)) _ f)) in
      let tail : map type_of (values_of c.protocol r es) ≡ ts =
      args_typed ts es (second_of_both (is_of t (type_in c e)) _ f) (omega arith) in
      ap (λ x. x ∷ map type_of (values_of c.protocol r es)) head ∙ ap (λ xs. t ∷ xs) tail
