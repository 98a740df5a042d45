-- The first number of a range that passes a test.
use Rattle.std.proofs.Common.{◌≡◌, ℕ, zero, suc, ◌+◌, ◌-◌, ◌<◌, ◌≤◌, Bool, true, false, cond, find, Some, None, refl, ap, sym}
use Rattle.std.proofs.Common.{subst, ◌∙◌, inl, inr, arith}
use Rattle.std.specs.List.{range_with_len}
use Rattle.std.proofs.lemmas.Bool.{cases_eq}

-- ---- in those from k on, of n

next : (p : ℕ → Bool) (k n : ℕ) → k < n → find p (range_with_len k (n - k))
    ≡ cond (p k) (Some k) (find p (range_with_len (k + 1) (n - (k + 1))))
next p k n lt = let e : n - k ≡ suc (n - (k + 1)) = omega arith in ap (λ left. find p (range_with_len k left)) e

pub skipped : (p : ℕ → Bool) (k n : ℕ) → k < n → p k ≡ false →
    find p (range_with_len k (n - k)) ≡ find p (range_with_len (k + 1) (n - (k + 1)))
skipped p k n lt fails = next p k n lt ∙ ap (λ b. cond b (Some k) (find p (range_with_len (k + 1) (n - (k + 1))))) fails

pub found : (p : ℕ → Bool) (k n : ℕ) → k < n → p k ≡ true → find p (range_with_len k (n - k)) ≡ Some k
found p k n lt passes = next p k n lt ∙ ap (λ b. cond b (Some k) (find p (range_with_len (k + 1) (n - (k + 1))))) passes

-- what is found is one of them
pub within : (p : ℕ → Bool) (k left found : ℕ) → find p (range_with_len k left) ≡ Some found → found < k + left
within p k zero found h = cc
within p k (suc left) found h = go (p k) h (within p (k + 1) left found)
  where
    go : (b : Bool) → cond b (Some k) (find p (range_with_len (k + 1) left)) ≡ Some found →
        (find p (range_with_len (k + 1) left) ≡ Some found → found < k + 1 + left) → found < k + suc left
    go true h later = let e : k ≡ found = cc in omega arith
    go false h later = let lt : found < k + 1 + left = later h in omega arith

-- and passes the test
pub passes : (p : ℕ → Bool) (k left found : ℕ) → find p (range_with_len k left) ≡ Some found → p found ≡ true
passes p k zero found h = absurd cc
passes p k (suc left) found h = go (p k) refl h (passes p (k + 1) left found)
  where
    go : (b : Bool) → p k ≡ b → cond b (Some k) (find p (range_with_len (k + 1) left)) ≡ Some found →
        (find p (range_with_len (k + 1) left) ≡ Some found → p found ≡ true) → p found ≡ true
    go true is h later = let e : k ≡ found = cc in subst (λ n. p n ≡ true) e is
    go false is h later = later h

-- where none is found, none of them passes
pub missed : (p : ℕ → Bool) (k left i : ℕ) → find p (range_with_len k left) ≡ None → k ≤ i → i < k + left → p i ≡ true → ⊥
missed p k zero i h le lt is = omega (arith, le, lt)
missed p k (suc left) i h le lt is = go (p k) refl h (λ f le2 lt2. missed p (k + 1) left i f le2 lt2 is)
  where
    go : (b : Bool) → p k ≡ b → cond b (Some k) (find p (range_with_len (k + 1) left)) ≡ None →
        (find p (range_with_len (k + 1) left) ≡ None → k + 1 ≤ i → i < k + 1 + left → ⊥) → ⊥
    go true q h later = cc
    go false q h later = elim (cases_eq k i) [
      | inl same ↦ (let z : true ≡ false = sym is ∙ sym (ap p same) ∙ q in cc)
      | inr other ↦ later h (omega (arith, le, other)) (omega (arith, lt))
    ]
