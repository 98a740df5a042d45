-- How many members a set of nodes has below a bound.
use Rattle.std.proofs.Common.{◌≡◌, ◌≤◌, ◌<◌, ℕ, zero, suc, Bool, true, false, List, [], ◌∷◌, length, refl, ap, sym, arith}
use native.Mathlib.Decide.{ℕ_discrete}
use Rattle.tw_base.specs.Lists.{one_if, sum_below}
use Rattle.tw_base.specs.NodeSets.{count, has}
use Rattle.block_spots.specs.Cases.{members}

-- past a bound nothing is added
sum_past : (f : ℕ → ℕ) (n m : ℕ) → n ≤ m → ((k : ℕ) → n ≤ k → f k ≡ 0) → sum_below m f ≡ sum_below n f
sum_past f n zero l h = let e : 0 ≡ n = omega arith in ap (λ (k : ℕ). sum_below k f) e
sum_past f n (suc m) l h =
    elim (ℕ_discrete n (suc m)) [
      | yes e ↦ ap (λ (k : ℕ). sum_below k f) (sym e)
      | no d ↦ omega (arith, sum_past f n m (omega arith) h, h m (omega arith))
    ]

none_if : (b : Bool) → (b ≡ true → ⊥) → one_if b ≡ 0
none_if true h = absurd (h refl)
none_if false h = refl

pub members_are_all : (s : List Bool) (n : ℕ) → n ≤ 8 → ((k : ℕ) → has s k ≡ true → k < n) → members n (has s) ≡ count s
unfolding members count
members_are_all s n l h =
    sym (sum_past (λ k. one_if (has s k)) n 8 l (λ k g. none_if (has s k) (λ e. let m : k < n = h k e in absurd (omega arith))))

-- a set of n nodes has members below n alone
pub member_below : (s : List Bool) (n k : ℕ) → length s ≡ n → has s k ≡ true → k < n
unfolding has
member_below [] n k e h = absurd cc
member_below (b ∷ s) n zero e h = omega arith
member_below (b ∷ s) n (suc k) e h = let i = member_below s (length s) k refl h in omega (arith, i)
