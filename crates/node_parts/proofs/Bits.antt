-- One bit of a word of 32.
use Rattle.std.proofs.Common.{◌≡◌, ◌≢◌, ℕ, ◌-◌, ◌*◌, ◌%◌, ◌^◌, ◌<◌, true, false, eqb, ap, bit_and, bit_or}
use Rattle.std.proofs.lemmas.Nat.Bits.{bit_at_set_same, bit_at_set_other, bit_at_clear_same, bit_at_clear_other}
use Rattle.std.specs.Int.{w32}
use Rattle.tw_base.specs.Bits.{has_bit}

pub set_here : (n k : ℕ) → k < 32 → has_bit (bit_or n (1 * 2 ^ k % 4294967296)) k ≡ true
set_here n k h = ap (λ b. eqb b 1) (bit_at_set_same w32 n k h)

pub set_others : (n k i : ℕ) → k < 32 → i ≢ k → has_bit (bit_or n (1 * 2 ^ k % 4294967296)) i ≡ has_bit n i
set_others n k i h ne = ap (λ b. eqb b 1) (bit_at_set_other w32 n k h i ne)

pub clear_here : (n k : ℕ) → k < 32 → has_bit (bit_and n (4294967295 - 1 * 2 ^ k % 4294967296)) k ≡ false
clear_here n k h = ap (λ b. eqb b 1) (bit_at_clear_same w32 n k h)

pub clear_others : (n k i : ℕ) → k < 32 → i < 32 → i ≢ k → has_bit (bit_and n (4294967295 - 1 * 2 ^ k % 4294967296)) i
    ≡ has_bit n i
clear_others n k i h lt ne = ap (λ b. eqb b 1) (bit_at_clear_other w32 n k h i lt ne)
