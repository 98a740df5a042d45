-- The bits of a word, one after another.
use Rattle.std.proofs.Common.{◌≡◌, ◌∙◌, ℕ, zero, suc, ◌+◌, ◌-◌, ◌*◌, ◌/◌, ◌%◌, ◌^◌, ◌<◌, ◌≤◌, Bool, true, false, List, [], ◌∷◌}
use Rattle.std.proofs.Common.{Option, Some, None, length, min, refl, sym, ap, subst, arith, inl, inr, bit_and, count_ones}
use Rattle.std.specs.Prelude.{◌==◌, slice_get}
use Rattle.std.specs.Option.{option_map, option_and_then}
use Rattle.std.proofs.Math.Nat.{zero-min}
use Rattle.std.specs.Int.Bits.{and_self, and_step}
use Rattle.std.specs.Int.Count.{count_trailing_zeros, ones_step, under}
use Rattle.std.proofs.lemmas.Nat.{ones-le, pow-add}
use Rattle.std.proofs.lemmas.Bool.{cases_eq}
use Rattle.event_masks.specs.Told.{told, true_at}
use Rattle.node_parts.specs.Truths.{truths}

-- ---- the k-th that is true

-- an odd word without its lowest 1
odd_cleared : (w : ℕ) → w % 2 ≡ 1 → (bit_and w (w - 1) % 2 ≡ 0) × (bit_and w (w - 1) / 2 ≡ w / 2)
odd_cleared w odd =
    let less : (w - 1) % 2 ≡ 0 = omega arith in
    let same : (w - 1) / 2 ≡ w / 2 = omega arith in
    let low : min (w % 2) ((w - 1) % 2) ≡ 0 = ap (λ a. min a ((w - 1) % 2)) odd ∙ ap (λ b. min 1 b) less in
    let high : bit_and (w / 2) ((w - 1) / 2) ≡ w / 2 = ap (λ b. bit_and (w / 2) b) same ∙ and_self (w / 2) in
    let both : bit_and w (w - 1) ≡ bit_and (w / 2) ((w - 1) / 2) * 2 + min (w % 2) ((w - 1) % 2) = and_step w (w - 1) in
    (omega (arith, both, low), omega (arith, both, low, high))

-- an even word without its lowest 1
even_cleared : (w : ℕ) → 0 < w → w % 2 ≡ 0 →
    (bit_and w (w - 1) % 2 ≡ 0) × (bit_and w (w - 1) / 2 ≡ bit_and (w / 2) (w / 2 - 1))
even_cleared w some even =
    let less : (w - 1) / 2 ≡ w / 2 - 1 = omega arith in
    let low : min (w % 2) ((w - 1) % 2) ≡ 0 = ap (λ a. min a ((w - 1) % 2)) even ∙ zero-min ((w - 1) % 2) in
    let high : bit_and (w / 2) ((w - 1) / 2) ≡ bit_and (w / 2) (w / 2 - 1) = ap (λ b. bit_and (w / 2) b) less in
    let both : bit_and w (w - 1) ≡ bit_and (w / 2) ((w - 1) / 2) * 2 + min (w % 2) ((w - 1) % 2) = and_step w (w - 1) in
    (omega (arith, both, low), omega (arith, both, low, high))

-- in a word without its lowest 1 each of the others comes one sooner
pub cleared : (n w k : ℕ) → 0 < w → true_at (truths n w) (suc k) ≡ true_at (truths n (bit_and w (w - 1))) k
unfolding truths
cleared zero w k some = refl
cleared (suc n) w k some = elim (cases_eq (w % 2) 1) [
  | inl odd ↦
      let c = odd_cleared w odd in
      ap (λ r. true_at ((r == 1) ∷ truths n (w / 2)) (suc k)) odd
      ∙ sym (ap (λ r. true_at ((r == 1) ∷ truths n (bit_and w (w - 1) / 2)) k) c.0
      ∙ ap (λ h. option_map suc (true_at (truths n h) k)) c.1)
  | inr other ↦
      let even : w % 2 ≡ 0 = omega (arith, other) in
      let c = even_cleared w some even in
      let half : 0 < w / 2 = omega arith in
      ap (λ r. true_at ((r == 1) ∷ truths n (w / 2)) (suc k)) even
      ∙ ap (λ o. option_map suc o) (cleared n (w / 2) k half)
      ∙ sym (ap (λ r. true_at ((r == 1) ∷ truths n (bit_and w (w - 1) / 2)) k) c.0
      ∙ ap (λ h. option_map suc (true_at (truths n h) k)) c.1)
]

-- nothing is true in an empty word
pub none_set : (n k : ℕ) → true_at (truths n 0) k ≡ None
unfolding truths
none_set zero k = refl
none_set (suc n) k = ap (λ o. option_map suc o) (none_set n k)

-- the first that is true stands at the lowest 1
pub lowest : (n k w : ℕ) → n ≤ k → count_trailing_zeros k w < n → true_at (truths n w) 0 ≡ Some (count_trailing_zeros k w)
unfolding truths count_trailing_zeros
lowest zero k w le low = absurd (omega (arith, low))
lowest (suc n) zero w le low = absurd (omega (arith, le))
lowest (suc n) (suc k) w le low = elim (cases_eq (w % 2) 1) [
  | inl odd ↦
      ap (λ r. true_at ((r == 1) ∷ truths n (w / 2)) 0) odd
      ∙ sym (ap (λ r. Some (under r (count_trailing_zeros k (w / 2)))) odd)
  | inr other ↦
      let even : w % 2 ≡ 0 = omega (arith, other) in
      let less : suc (count_trailing_zeros k (w / 2)) < suc n =
      subst (λ r. under r (count_trailing_zeros k (w / 2)) < suc n) even low in
      ap (λ r. true_at ((r == 1) ∷ truths n (w / 2)) 0) even
      ∙ ap (λ o. option_map suc o) (lowest n k (w / 2) (omega (arith, le)) (omega (arith, less)))
      ∙ sym (ap (λ r. Some (under r (count_trailing_zeros k (w / 2)))) even)
]

-- none is true where no 1 stands that low
pub none_low : (n k w : ℕ) → n ≤ k → n ≤ count_trailing_zeros k w → true_at (truths n w) 0 ≡ None
unfolding truths count_trailing_zeros
none_low zero k w le high = refl
none_low (suc n) zero w le high = absurd (omega (arith, le))
none_low (suc n) (suc k) w le high = elim (cases_eq (w % 2) 1) [
  | inl odd ↦ absurd
      (let more : suc n ≤ 0 = subst (λ r. suc n ≤ under r (count_trailing_zeros k (w / 2))) odd high in omega (arith, more))
  | inr other ↦
      let even : w % 2 ≡ 0 = omega (arith, other) in
      let more : suc n ≤ suc (count_trailing_zeros k (w / 2)) =
      subst (λ r. suc n ≤ under r (count_trailing_zeros k (w / 2))) even high in
      ap (λ r. true_at ((r == 1) ∷ truths n (w / 2)) 0) even
      ∙ ap (λ o. option_map suc o) (none_low n k (w / 2) (omega (arith, le)) (omega (arith, more)))
]

-- ---- what is told, by place

behind : {X : Type 0} (x : X) (xs : List X) (o : Option ℕ) →
    option_and_then (slice_get (x ∷ xs)) (option_map suc o) ≡ option_and_then (slice_get xs) o
behind x xs None = refl
behind x xs (Some k) = refl

none_there : {X : Type 0} (o : Option ℕ) → option_and_then (slice_get {X = X} []) o ≡ None
none_there None = refl
none_there (Some k) = refl

-- the k-th item that is told is the one at the place of the k-th test that is true
pub told_get : {X : Type 0} (bs : List Bool) (xs : List X) (k : ℕ) →
    slice_get (told bs xs) k ≡ option_and_then (slice_get xs) (true_at bs k)
told_get [] xs k = refl
told_get {X} (b ∷ bs) [] k = sym (none_there {X = X} (true_at (b ∷ bs) k))
told_get (true ∷ bs) (x ∷ xs) zero = refl
told_get (true ∷ bs) (x ∷ xs) (suc k) = told_get bs xs k ∙ sym (behind x xs (true_at bs k))
told_get (false ∷ bs) (x ∷ xs) k = told_get bs xs k ∙ sym (behind x xs (true_at bs k))

-- ---- how many are told

told_more : {X : Type 0} (r : ℕ) (bs : List Bool) (x : X) (xs : List X) → r < 2 →
    length (told ((r == 1) ∷ bs) (x ∷ xs)) ≡ r + length (told bs xs)
told_more zero bs x xs low = omega arith
told_more (suc zero) bs x xs low = omega arith
told_more (suc (suc r)) bs x xs low = absurd (omega arith)

no_ones : (word : ℕ) → word < 1 → count_ones word ≡ 0
no_ones word low = omega (arith, ones-le 0 word (omega (arith, low)))

-- as many items are told as there are ones in a word that has no other bits
pub told_ones : {X : Type 0} (xs : List X) (word : ℕ) → word < 2 ^ length xs →
    length (told (truths (length xs) word) xs) ≡ count_ones word
unfolding truths
told_ones [] word low = sym (no_ones word low)
told_ones (x ∷ xs) word low =
    let more : suc (length xs) ≡ 1 + length xs = omega arith in
    let double : 2 ^ suc (length xs) ≡ 2 * 2 ^ length xs = ap (λ k. 2 ^ k) more ∙ pow-add 2 1 (length xs) in
    let half : word / 2 < 2 ^ length xs = omega (arith, low, double) in
    told_more (word % 2) (truths (length xs) (word / 2)) x xs (omega arith)
    ∙ ap (λ n. word % 2 + n) (told_ones xs (word / 2) half) ∙ sym (ones_step word)
