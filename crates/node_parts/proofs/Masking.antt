-- The bits of a number as truth values.
use Rattle.std.proofs.Common.{◌≡◌, ◌∙◌, ℕ, zero, suc, ◌+◌, ◌-◌, ◌*◌, ◌/◌, ◌%◌, ◌^◌, ◌<◌, ◌≤◌, Bool, true, false, [], ◌∷◌, ◌++◌}
use Rattle.std.proofs.Common.{eqb, bit_and, min, refl, ap, sym, arith}
use Rattle.std.specs.Prelude.{◌==◌}
use Rattle.std.specs.Int.{bit_at, from_bool}
use Rattle.std.proofs.lemmas.Nat.{and_mask, mod_below, pow-add, pow_pos}
use Rattle.std.proofs.lemmas.Nat.Bits.{bit_at-lt, bit_at-suc, bit_at_and, bit_at_lowest, bit_at_ones}
use Rattle.tw_base.specs.Bits.{has_bit}
use Rattle.node_parts.specs.Truths.{truths}

lowest : (w : ℕ) → (w % 2 == 1) ≡ has_bit w 0
lowest w = ap (λ b. eqb b 1) (sym (bit_at_lowest w))

next : (w k : ℕ) → has_bit (w / 2) k ≡ has_bit w (suc k)
next w k = ap (λ b. eqb b 1) (sym (bit_at-suc w k))

-- one bit more
pub truths_more : (n w : ℕ) → truths (suc n) w ≡ truths n w ++ has_bit w n ∷ []
unfolding truths
truths_more zero w = ap (λ b. b ∷ []) (lowest w)
truths_more (suc n) w = ap (λ bs. (w % 2 == 1) ∷ bs) (truths_more n (w / 2) ∙ ap (λ b. truths n (w / 2) ++ b ∷ []) (next w n))

-- numbers with the same lowest bits
pub truths_by : (n v w : ℕ) → ((k : ℕ) → k < n → has_bit v k ≡ has_bit w k) → truths n v ≡ truths n w
unfolding truths
truths_by zero v w same = refl
truths_by (suc n) v w same =
    truths_more n v
    ∙ ap (λ bs. bs ++ has_bit v n ∷ []) (truths_by n v w (λ k lt. same k (omega (arith, lt))))
    ∙ ap (λ b. truths n w ++ b ∷ []) (same n (omega arith))
    ∙ sym (truths_more n w)

masked_bit : (w n k : ℕ) → k < n → has_bit (bit_and w (2 ^ n - 1)) k ≡ has_bit w k
masked_bit w n k lt =
    let one : min (bit_at w k) (bit_at (2 ^ n - 1) k) ≡ bit_at w k =
    rw (bit_at_ones n k lt) (below (bit_at w k) (bit_at-lt w k)) in
    ap (λ b. eqb b 1) (bit_at_and w (2 ^ n - 1) k ∙ one)
  where
    below : (b : ℕ) → b < 2 → min b 1 ≡ b
    below zero lt = refl
    below (suc zero) lt = refl
    below (suc (suc b)) lt = absurd (omega arith)

-- the lowest bits of a number that has no others
pub truths_masked : (n w : ℕ) → truths n (bit_and w (2 ^ n - 1)) ≡ truths n w
truths_masked n w = truths_by n (bit_and w (2 ^ n - 1)) w (masked_bit w n)

pub masked_small : (n w : ℕ) → bit_and w (2 ^ n - 1) < 2 ^ n
masked_small n w = rw (and_mask w n) (mod_below w (2 ^ n) (pow_pos n))

-- two bits below others
first_two : (n x w : ℕ) (a b : Bool) → (x % 2 == 1) ≡ a → (x / 2 % 2 == 1) ≡ b → x / 2 / 2 ≡ w →
    truths (suc (suc n)) x ≡ a ∷ b ∷ truths n w
unfolding truths
first_two n x w a b e f g = rw (e, f, g) refl

odd : (x : ℕ) → x % 2 ≡ 1 → (x % 2 == 1) ≡ true
odd x e = rw e refl

even : (x : ℕ) → x % 2 ≡ 0 → (x % 2 == 1) ≡ false
even x e = rw e refl

pub truths_behind : (n w : ℕ) (a b : Bool) → truths (suc (suc n)) (from_bool a + 2 * from_bool b + 4 * w) ≡ a ∷ b ∷ truths n w
truths_behind n w true true = first_two n (1 + 2 * 1 + 4 * w) w true true (odd (1 + 2 * 1 + 4 * w) (omega arith))
    (odd ((1 + 2 * 1 + 4 * w) / 2) (omega arith)) (omega arith)
truths_behind n w true false = first_two n (1 + 2 * 0 + 4 * w) w true false (odd (1 + 2 * 0 + 4 * w) (omega arith))
    (even ((1 + 2 * 0 + 4 * w) / 2) (omega arith)) (omega arith)
truths_behind n w false true = first_two n (0 + 2 * 1 + 4 * w) w false true (even (0 + 2 * 1 + 4 * w) (omega arith))
    (odd ((0 + 2 * 1 + 4 * w) / 2) (omega arith)) (omega arith)
truths_behind n w false false = first_two n (0 + 2 * 0 + 4 * w) w false false (even (0 + 2 * 0 + 4 * w) (omega arith))
    (even ((0 + 2 * 0 + 4 * w) / 2) (omega arith)) (omega arith)

-- ---- the tests of a node

pub tests_are : (n w a b m : ℕ) (first second : Bool) → n < 32 → a ≡ from_bool first → b ≡ from_bool second → m ≡ 2 ^ n →
    truths (2 + n) (a + 2 * b + 4 * bit_and w (m - 1)) ≡ first ∷ second ∷ truths n w
tests_are n w a b m first second lt e f g =
    let two : 2 + n ≡ suc (suc n) = omega arith in
    rw (e, f, g) (ap (λ k. truths k (from_bool first + 2 * from_bool second + 4 * bit_and w (2 ^ n - 1))) two
    ∙ truths_behind n (bit_and w (2 ^ n - 1)) first second ∙ ap (λ bs. first ∷ second ∷ bs) (truths_masked n w))

bit_small : (b : Bool) → from_bool b ≤ 1
bit_small true = omega arith
bit_small false = omega arith

pub tests_small : (n w a b m : ℕ) (first second : Bool) → a ≡ from_bool first → b ≡ from_bool second → m ≡ 2 ^ n →
    a + 2 * b + 4 * bit_and w (m - 1) < 2 ^ (2 + n)
tests_small n w a b m first second e f g =
    let low : bit_and w (m - 1) < 2 ^ n = rw g (masked_small n w) in
    let whole : 2 ^ (2 + n) ≡ 4 * 2 ^ n = pow-add 2 2 n in
    rw whole (omega (arith, low, e, f, bit_small first, bit_small second))
