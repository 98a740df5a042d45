-- How many sharers a directory has.
use Rattle.std.proofs.Common.{◌≡◌, ◌≢◌, ℕ, zero, suc, ◌+◌, ◌<◌, ◌≤◌, Bool, true, false, arith, refl, ap}
use Rattle.std.specs.Prelude.{if◌then◌else◌}
use Rattle.std.proofs.lemmas.Bool.Decides.{nat_tests}
use Rattle.tw_base.specs.Lists.{one_if}
use Rattle.block_spots.specs.Cases.{members, nobody, with_node, without_node}
use Rattle.block_spots.proofs.Sums.{sum_below_one}
use Rattle.stache_l_table.specs.Handling.{greatest}

-- one sharer more
pub with_more : (n : ℕ) (s : ℕ → Bool) (i : ℕ) → i < n → s i ≡ false → members n (with_node s i) ≡ members n s + 1
unfolding members
with_more n s i l e = omega (
  arith,
  sum_below_one n (λ k. one_if (with_node s i k)) (λ k. one_if (s k)) i l other,
  here,
  ap one_if e,
)
  where
    other : (j : ℕ) → j < n → j ≢ i → one_if (with_node s i j) ≡ one_if (s j)
    other j lj d = grind (arith, nat_tests)

    here : one_if (with_node s i i) ≡ 1
    here = grind (arith, nat_tests)

pub with_at_most : (n : ℕ) (s : ℕ → Bool) (i : ℕ) → i < n → members n (with_node s i) ≤ members n s + 1
unfolding members
with_at_most n s i l = omega (arith, sum_below_one n (λ k. one_if (with_node s i k)) (λ k. one_if (s k)) i l other, here)
  where
    other : (j : ℕ) → j < n → j ≢ i → one_if (with_node s i j) ≡ one_if (s j)
    other j lj d = grind (arith, nat_tests)

    here : one_if (with_node s i i) ≡ 1
    here = grind (arith, nat_tests)

-- one sharer fewer
pub without_less : (n : ℕ) (s : ℕ → Bool) (k : ℕ) → k < n → s k ≡ true → members n (without_node s k) + 1 ≡ members n s
unfolding members
without_less n s k l e = omega (
  arith,
  sum_below_one n (λ j. one_if (without_node s k j)) (λ j. one_if (s j)) k l other,
  here,
  ap one_if e,
)
  where
    other : (j : ℕ) → j < n → j ≢ k → one_if (without_node s k j) ≡ one_if (s j)
    other j lj d = grind (arith, nat_tests)

    here : one_if (without_node s k k) ≡ 0
    here = grind (arith, nat_tests)

pub without_at_most : (n : ℕ) (s : ℕ → Bool) (k : ℕ) → k < n → members n (without_node s k) ≤ members n s
unfolding members
without_at_most n s k l = omega (arith, sum_below_one n (λ j. one_if (without_node s k j)) (λ j. one_if (s j)) k l other, here)
  where
    other : (j : ℕ) → j < n → j ≢ k → one_if (without_node s k j) ≡ one_if (s j)
    other j lj d = grind (arith, nat_tests)

    here : one_if (without_node s k k) ≡ 0
    here = grind (arith, nat_tests)

pub none_of : (n : ℕ) (s : ℕ → Bool) → ((k : ℕ) → s k ≡ false) → members n s ≡ 0
unfolding members
none_of zero s e = refl
none_of (suc n) s e = omega (arith, none_of n s e, ap one_if (e n))

pub one_member : (n i : ℕ) → i < n → members n (with_node nobody i) ≡ 1
one_member n i l = omega (arith, with_more n nobody i l refl, none_of n nobody (λ k. refl))

-- where there is a sharer, the greatest is one
pub greatest_has : (n : ℕ) (s : ℕ → Bool) → 1 ≤ members n s → (greatest n s < n) × (s (greatest n s) ≡ true)
unfolding members
greatest_has zero s m = absurd (omega (arith, m))
greatest_has (suc n) s m = by_test (greatest_has n s) (s n) refl
  where
    by_test : (1 ≤ members n s → (greatest n s < n) × (s (greatest n s) ≡ true)) → (t : Bool) → s n ≡ t →
        ((if t then n else greatest n s) < suc n) × (s (if t then n else greatest n s) ≡ true)
    by_test below true y = (omega arith, y)
    by_test below false y =
        let before = below (omega (arith, m, ap one_if y)) in
        (omega (arith, before.0), before.1)
