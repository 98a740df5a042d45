-- Bits of numbers, and a set of nodes as the bits of a byte, where each fact is computed for all 256 bytes.
use Rattle.std.specs.Prelude.{◌≡◌, ℕ, zero, suc, ◌<◌, ◌^◌, ◌==◌, ◌&&◌, Bool, true}
use Rattle.std.specs.Int.{bit_at}
use Rattle.std.proofs.Common.{refl, ap, arith, inl, inr}
use Rattle.std.proofs.lemmas.Bool.{and_parts, cases_eq, eqb-true}
use Rattle.tw_base.specs.NodeSets.{bits_of, tests_of}
use Rattle.tw_base.specs.declared.node_set.NodeSet.TheInside.{Inside}

-- whether bit k of a number is set
abbrev pub has_bit : ℕ → ℕ → Bool
has_bit bits k = bit_at bits k == 1

-- a test of each number below n
abbrev pub all_below : ℕ → (ℕ → Bool) → Bool
all_below zero p = true
all_below (suc n) p = p n && all_below n p

pub all_below-at : (n : ℕ) (p : ℕ → Bool) → all_below n p ≡ true → (k : ℕ) → k < n → p k ≡ true
all_below-at zero p e k lt = absurd (omega arith)
all_below-at (suc n) p e k lt = elim (cases_eq k n) [
  | inl q ↦ rw q (and_parts (p n) (all_below n p) e).0
  | inr d ↦ all_below-at n p (and_parts (p n) (all_below n p) e).1 k (omega arith)
]

pub bits_back : (n : ℕ) → n < 2 ^ 8 → bits_of (tests_of 8 n) ≡ n
bits_back n lt = eqb-true _ _ (all_below-at 256 (λ k. bits_of (tests_of 8 k) == k) refl n lt)

pub bits_of-tests_of : (s : Inside) → s.bits < 2 ^ 8 → record { bits = bits_of (tests_of 8 s.bits) } ≡ s
bits_of-tests_of s lt = ap (λ n. record { bits = n }) (bits_back s.bits lt)
