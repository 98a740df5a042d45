-- A test of all numbers below one, where it fails at one of them.
use Rattle.std.proofs.Common.{◌≡◌, ℕ, zero, suc, ◌<◌, ◌&&◌, Bool, true, false, ap, refl, inl, inr, subst, arith}
use Rattle.std.proofs.lemmas.Bool.{cases_eq}
use Rattle.tw_base.specs.Bits.{all_below}

and-fails : (a b : Bool) → b ≡ false → (a && b) ≡ false
and-fails true b e = e
and-fails false b e = refl

pub all_below-fails : (n : ℕ) (p : ℕ → Bool) (k : ℕ) → k < n → p k ≡ false → all_below n p ≡ false
all_below-fails zero p k lt e = absurd (omega arith)
all_below-fails (suc n) p k lt e = elim (cases_eq k n) [
  | inl q ↦ ap (λ z. z && all_below n p) (subst (λ z. p z ≡ false) q e)
  | inr d ↦ and-fails (p n) (all_below n p) (all_below-fails n p k (omega arith) e)
]
