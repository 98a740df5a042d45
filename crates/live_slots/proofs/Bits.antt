-- Slots as bits of numbers of 32 bits.
use Rattle.std.proofs.Common.{◌≡◌, ℕ, zero, suc, ◌*◌, ◌^◌, ◌<◌, ◌%◌, ◌≤◌, Bool, true, false, refl, sym, ap, ◌∙◌, arith, inl, inr}
use Rattle.std.specs.Prelude.{◌==◌, ◌&&◌, ◌||◌, nat_lt, not, max, min, bit_and, bit_or, ◌⊎◌}
use Rattle.std.specs.Int.{bit_at, bit_not, w32}
use Rattle.std.proofs.lemmas.Bool.{cases_eq, cases_lt, eq-eqb, eqb-true, le-ltb, lt-ltb}
use Rattle.std.proofs.lemmas.Nat.Bits.{bit_at-lt, bit_at_above, bit_at_and, bit_at_or, bit_at_set_same, bit_at_set_other}
use Rattle.std.proofs.lemmas.Nat.Bits.{bit_at_clear_same, bit_at_clear_other}
use Rattle.tw_base.specs.Bits.{has_bit}

either_one : (a b : ℕ) → a < 2 → b < 2 → (max a b == 1) ≡ ((a == 1) || (b == 1))
either_one zero zero x y = refl
either_one zero (suc zero) x y = refl
either_one (suc zero) zero x y = refl
either_one (suc zero) (suc zero) x y = refl
either_one (suc (suc a)) b x y = absurd (omega arith)
either_one zero (suc (suc b)) x y = absurd (omega arith)
either_one (suc zero) (suc (suc b)) x y = absurd (omega arith)

pub has_bit-or : (a b k : ℕ) → has_bit (bit_or a b) k ≡ (has_bit a k || has_bit b k)
has_bit-or a b k = ap (λ n. n == 1) (bit_at_or a b k) ∙ either_one (bit_at a k) (bit_at b k) (bit_at-lt a k) (bit_at-lt b k)

unequal : (b : Bool) → (b ≡ true → ⊥) → b ≡ false
unequal true f = absurd (f refl)
unequal false f = refl

apart : (a b : ℕ) → (b ≡ a → ⊥) → (a == b) ≡ false
apart a b f = unequal (a == b) (λ e. f (sym (eqb-true a b e)))

has_bit-set : (n j k : ℕ) → j < 32 → has_bit (bit_or n (1 * 2 ^ j % 2 ^ 32)) k ≡ ((j == k) || has_bit n k)
has_bit-set n j k lt = elim (cases_eq k j) [
  | inl same ↦
      ap (λ i. has_bit (bit_or n (1 * 2 ^ j % 2 ^ 32)) i) same ∙ ap (λ b. b == 1) (bit_at_set_same w32 n j lt)
      ∙ sym (ap (λ b. b || has_bit n k) (eq-eqb j k (sym same)))
  | inr other ↦
      ap (λ b. b == 1) (bit_at_set_other w32 n j lt k other) ∙ sym (ap (λ b. b || has_bit n k) (apart j k other))
]

-- a slot below 32 gets its bit, another gets none
pub with_low : (n j k : ℕ) → j < 32 → has_bit (bit_or n (1 * 2 ^ j % 2 ^ 32)) k ≡ ((nat_lt j 32 && (j == k)) || has_bit n k)
with_low n j k lt = has_bit-set n j k lt ∙ ap (λ b. (b && (j == k)) || has_bit n k) (sym (lt-ltb j 32 lt))

pub with_high : (n j k : ℕ) → 32 ≤ j → has_bit n k ≡ ((nat_lt j 32 && (j == k)) || has_bit n k)
with_high n j k le = ap (λ b. (b && (j == k)) || has_bit n k) (sym (le-ltb j 32 le))

-- a number of 32 bits has no bit from the 32nd on
has_bit-above : (n k : ℕ) → n < 2 ^ 32 → 32 ≤ k → has_bit n k ≡ false
has_bit-above n k lt le = ap (λ b. b == 1) (bit_at_above n 32 k lt le)

and_above : (n m k : ℕ) → n < 2 ^ 32 → 32 ≤ k → has_bit (bit_and n m) k ≡ has_bit n k
and_above n m k lt le =
    let none : bit_at n k ≡ 0 = bit_at_above n 32 k lt le in
    let less : min (bit_at n k) (bit_at m k) ≡ bit_at n k = omega (arith, none) in
    ap (λ b. b == 1) (bit_at_and n m k ∙ less)

pub has_bit-clear : (n j k : ℕ) → n < 2 ^ 32 → j < 32 → has_bit (bit_and n (bit_not w32 (1 * 2 ^ j % 2 ^ 32))) k
    ≡ (not (j == k) && has_bit n k)
has_bit-clear n j k small lt = elim (cases_eq k j) [
  | inl same ↦
      ap (λ i. has_bit (bit_and n (bit_not w32 (1 * 2 ^ j % 2 ^ 32))) i) same ∙ ap (λ b. b == 1) (bit_at_clear_same w32 n j lt)
      ∙ sym (ap (λ b. not b && has_bit n k) (eq-eqb j k (sym same)))
  | inr other ↦
      by_size other (cases_lt k 32) ∙ sym (ap (λ b. not b && has_bit n k) (apart j k other))
]
  where
    by_size : (k ≡ j → ⊥) → (k < 32) ⊎ (32 ≤ k) → has_bit (bit_and n (bit_not w32 (1 * 2 ^ j % 2 ^ 32))) k ≡ has_bit n k
    by_size other (inr le) = and_above n (bit_not w32 (1 * 2 ^ j % 2 ^ 32)) k small le
    by_size other (inl less) = ap (λ b. b == 1) (bit_at_clear_other w32 n j lt k less other)

-- a slot past the 32nd has no bit
pub has_bit-far : (n j k : ℕ) → n < 2 ^ 32 → 32 ≤ j → has_bit n k ≡ (not (j == k) && has_bit n k)
has_bit-far n j k small le = elim (cases_eq k j) [
  | inl same ↦
      has_bit-above n k small (omega (arith, same)) ∙ sym (ap (λ b. not b && has_bit n k) (eq-eqb j k (sym same)))
  | inr other ↦ sym (ap (λ b. not b && has_bit n k) (apart j k other))
]
