-- What is kept of an expression, by its depth.
use Rattle.std.proofs.Common.{◌≡◌, ℕ, ◌+◌, ◌<◌, ◌≤◌, max, refl, sym, subst, arith, inl, inr}
use Rattle.std.proofs.lemmas.Bool.{cases_lt, le-ltb, lt-ltb}
use Rattle.teapot_tree.specs.declared.expr.Op.{Op}
use Rattle.teapot_tree.specs.declared.expr.Expr.{Expr, roll-Expr}
use Rattle.teapot_tree.specs.declared.expr.Expr.TheOpen.{Expr-F}
use Rattle.teapot_tree.specs.declared.expr.Expr.TheFolds.{fold-roll-Expr, ind-Expr, map-Expr}
use Rattle.teapot_tree.specs.declared.expr.Expr.TheVariants as e
use Rattle.teapot_lines.specs.declared.cut.Cut.{Cut}
use Rattle.teapot_lines.specs.declared.cut.Cut.TheVariants.{Deep, Kept}
use Rattle.teapot_lines.specs.declared.cut.Unary.{Unary}
use Rattle.teapot_lines.specs.declared.cut.Unary.TheVariants as u
use Rattle.teapot_tree.specs.Parts.{depth, depth_step}
use Rattle.teapot_lines.specs.Cuts.{cut, cut_step, applied, one_of, two_of}
use Rattle.teapot_lines.proofs.Spells.{cut-roll}

abbrev Keeps : Cut → ℕ → Expr → Type 0
Keeps c n x = (n ≤ 16 → c ≡ Kept n x) × (16 < n → c ≡ Deep)

one-keeps : (word : Unary) (c : Cut) (n : ℕ) (x : Expr) → Keeps c n x → Keeps (one_of word c) (n + 1) (applied word x)
one-keeps word c n x h = (
  λ le. let k : n ≤ 16 = omega arith in let lt : n < 16 = omega arith in rw (h.0 k, lt-ltb n 16 lt) refl,
  λ lt. elim (cases_lt 16 n) [
    | inl more ↦ rw (h.1 more) refl
    | inr le ↦ let k : 16 ≤ n = omega arith in rw (h.0 le, le-ltb n 16 k) refl
  ],
)

two-deep : (op : Op) (c d : Cut) (m n : ℕ) (x y : Expr) → Keeps c m x → Keeps d n y → 16 < max m n + 1 → two_of op c d ≡ Deep
two-deep op c d m n x y h k lt =
    elim (cases_lt 16 m) [
      | inl more ↦ rw (h.1 more) refl
      | inr le ↦ elim (cases_lt m 16) [
        | inr full ↦ rw (h.0 le, le-ltb m 16 full) refl
        | inl less ↦ elim (cases_lt 16 n) [
          | inl more ↦ rw (h.0 le, lt-ltb m 16 less, k.1 more) refl
          | inr few ↦ let full : 16 ≤ n = omega arith in rw (h.0 le, lt-ltb m 16 less, k.0 few, le-ltb n 16 full) refl
        ]
      ]
    ]

two-keeps : (op : Op) (c d : Cut) (m n : ℕ) (x y : Expr) → Keeps c m x → Keeps d n y →
    Keeps (two_of op c d) (max m n + 1) (e.Two op x y)
two-keeps op c d m n x y h k = (
  λ le.
      let a : m ≤ 16 = omega arith in
      let b : n ≤ 16 = omega arith in
      let s : m < 16 = omega arith in
      let t : n < 16 = omega arith in
      rw (h.0 a, k.0 b, lt-ltb m 16 s, lt-ltb n 16 t) refl,
  two-deep op c d m n x y h k,
)

abbrev Within : Expr → Type 0
Within x = Keeps (cut x) (depth x) x

abbrev Part : Type 0
Part = (x : Expr) × Within x

abbrev whole_of : Expr-F Part → Expr-F Expr
whole_of = map-Expr Part Expr (λ p. p.0)

depth-roll : (x : Expr-F Expr) → depth (roll-Expr x) ≡ depth_step (map-Expr Expr ℕ depth x)
unfolding depth
depth-roll x = fold-roll-Expr ℕ depth_step x

abbrev At : Expr-F Expr → Expr → Type 0
At d x = Keeps (cut_step (map-Expr Expr Cut cut d)) (depth_step (map-Expr Expr ℕ depth d)) x

leaf-keeps : (x : Expr) → Keeps (Kept 1 x) 1 x
leaf-keeps x = (λ le. refl, λ lt. absurd (omega arith))

level : (y : Expr-F Part) → At (whole_of y) (roll-Expr (whole_of y))
level (Expr-F.Number n) = subst (At (Expr-F.Number n)) (sym (e.rolls-Number n)) (leaf-keeps (e.Number n))
level Expr-F.True = subst (At Expr-F.True) (sym e.rolls-True) (leaf-keeps e.True)
level Expr-F.False = subst (At Expr-F.False) (sym e.rolls-False) (leaf-keeps e.False)
level Expr-F.Empty = subst (At Expr-F.Empty) (sym e.rolls-Empty) (leaf-keeps e.Empty)
level Expr-F.Src = subst (At Expr-F.Src) (sym e.rolls-Src) (leaf-keeps e.Src)
level Expr-F.SelfNode = subst (At Expr-F.SelfNode) (sym e.rolls-SelfNode) (leaf-keeps e.SelfNode)
level Expr-F.Home = subst (At Expr-F.Home) (sym e.rolls-Home) (leaf-keeps e.Home)
level (Expr-F.Var w) = subst (At (Expr-F.Var w)) (sym (e.rolls-Var w)) (leaf-keeps (e.Var w))
level (Expr-F.One a) = subst (At (Expr-F.One a.0)) (sym (e.rolls-One a.0)) (one-keeps u.One (cut a.0) (depth a.0) a.0 a.1)
level (Expr-F.Not a) = subst (At (Expr-F.Not a.0)) (sym (e.rolls-Not a.0)) (one-keeps u.Not (cut a.0) (depth a.0) a.0 a.1)
level (Expr-F.Count a) = subst (At (Expr-F.Count a.0)) (sym (e.rolls-Count a.0)) (one-keeps u.Count (cut a.0) (depth a.0) a.0 a.1)
level (Expr-F.Two op a b) = subst (At (Expr-F.Two op a.0 b.0)) (sym (e.rolls-Two op a.0 b.0))
    (two-keeps op (cut a.0) (cut b.0) (depth a.0) (depth b.0) a.0 b.0 a.1 b.1)

at_level : (y : Expr-F Part) → Within (roll-Expr (whole_of y))
at_level y = rw (cut-roll (whole_of y), depth-roll (whole_of y)) (level y)

pub cut-within : (x : Expr) → Within x
cut-within = ind-Expr Within (λ x y is. subst (λ z. Within (roll-Expr z)) is (at_level y))
