-- The sum of words of which every fourth is the same.
use Rattle.std.proofs.Common.{◌≡◌, ℕ, zero, suc, ◌+◌, ◌*◌, ◌<◌, ◌≤◌, ◌%◌, ◌^◌, List, [], ◌∷◌, length, sum, ap, ◌∙◌, arith}
use Rattle.std.specs.Prelude.{slice_index}
use Rattle.std.proofs.lemmas.List.Sums.{sum_by-cons}
use Rattle.std.proofs.Math.Nat.{mod-eq_of_lt, mul-le-mul_right}

-- n words of each of four kinds, in turn
abbrev IsInFours : ℕ → (ℕ → ℕ) → List ℕ → Type 0
IsInFours n x words = (i k : ℕ) → i < 4 → k < n → slice_index words (i + 4 * k) ≡ x i

behind_four : (n : ℕ) (x : ℕ → ℕ) (a b c d : ℕ) (words : List ℕ) → IsInFours (suc n) x (a ∷ b ∷ c ∷ d ∷ words)
    → IsInFours n x words
behind_four n x a b c d words h i k li lk =
    let e : suc (suc (suc (suc (i + 4 * k)))) ≡ i + 4 * suc k = omega arith in
    ap (slice_index (a ∷ b ∷ c ∷ d ∷ words)) e ∙ h i (suc k) li (omega arith)

one_of_four : (n : ℕ) (x : ℕ → ℕ) (words : List ℕ) → IsInFours (suc n) x words → (i : ℕ) → i < 4 → slice_index words i ≡ x i
one_of_four n x words h i li = let e : i ≡ i + 4 * 0 = omega arith in ap (slice_index words) e ∙ h i 0 li (omega arith)

sum_of_four : (a b c d : ℕ) (words : List ℕ) → sum (a ∷ b ∷ c ∷ d ∷ words) ≡ a + (b + (c + (d + sum words)))
sum_of_four a b c d words =
    sum_by-cons (λ x. x) a (b ∷ c ∷ d ∷ words)
    ∙ ap (λ s. a + s) (sum_by-cons (λ x. x) b (c ∷ d ∷ words)
    ∙ ap (λ s. b + s) (sum_by-cons (λ x. x) c (d ∷ words)
    ∙ ap (λ s. c + s) (sum_by-cons (λ x. x) d words)))

one_more : (n y s : ℕ) → s ≡ n * y → y + s ≡ suc n * y
one_more n y s e = grind arith

none_of : (y : ℕ) → 0 ≡ 0 * y
none_of y = grind arith

pub sum_in_fours : (n : ℕ) (x : ℕ → ℕ) (words : List ℕ) → length words ≡ 4 * n → IsInFours n x words
    → sum words ≡ n * (x 0 + x 1 + x 2 + x 3)
sum_in_fours zero x [] e h = none_of (x 0 + x 1 + x 2 + x 3)
sum_in_fours zero x (a ∷ words) e h = absurd (omega arith)
sum_in_fours (suc n) x [] e h = absurd (omega arith)
sum_in_fours (suc n) x (a ∷ []) e h = absurd (omega arith)
sum_in_fours (suc n) x (a ∷ b ∷ []) e h = absurd (omega arith)
sum_in_fours (suc n) x (a ∷ b ∷ c ∷ []) e h = absurd (omega arith)
sum_in_fours (suc n) x (a ∷ b ∷ c ∷ d ∷ words) e h =
    let rest = sum_in_fours n x words (omega arith) (behind_four n x a b c d words h) in
    let ea : a ≡ x 0 = one_of_four n x (a ∷ b ∷ c ∷ d ∷ words) h 0 (omega arith) in
    let eb : b ≡ x 1 = one_of_four n x (a ∷ b ∷ c ∷ d ∷ words) h 1 (omega arith) in
    let ec : c ≡ x 2 = one_of_four n x (a ∷ b ∷ c ∷ d ∷ words) h 2 (omega arith) in
    let ed : d ≡ x 3 = one_of_four n x (a ∷ b ∷ c ∷ d ∷ words) h 3 (omega arith) in
    let s : a + (b + (c + (d + sum words))) ≡ x 0 + x 1 + x 2 + x 3 + sum words = omega arith in
    sum_of_four a b c d words ∙ s ∙ one_more n (x 0 + x 1 + x 2 + x 3) (sum words) rest

-- sixteen words of each node, each of them R times its increment
factored : (r a b c d : ℕ) → 16 * (r * a + r * b + r * c + r * d) ≡ 16 * r * (a + b + c + d)
factored r a b c d = grind arith

-- small rounds and increments come to a sum of 64 bits
factored_small : (r a b c d : ℕ) → r ≤ 32 → a ≤ 97 → b ≤ 97 → c ≤ 97 → d ≤ 97 → 16 * r * (a + b + c + d) < 2 ^ 64
factored_small r a b c d lr la lb lc ld =
    let f : 16 * r * (a + b + c + d) ≤ 512 * (a + b + c + d) = mul-le-mul_right (a + b + c + d) (omega arith) in
    omega arith

pub sum_of_words : (r a b c d : ℕ) (x : ℕ → ℕ) (words : List ℕ) → r ≤ 32 → a ≤ 97 → b ≤ 97 → c ≤ 97 → d ≤ 97
    → x 0 ≡ r * a → x 1 ≡ r * b → x 2 ≡ r * c → x 3 ≡ r * d → length words ≡ 64
    → IsInFours 16 x words → sum words % 2 ^ 64 ≡ 16 * r * (a + b + c + d)
sum_of_words r a b c d x words lr la lb lc ld e0 e1 e2 e3 size h =
    let s : sum words ≡ 16 * (x 0 + x 1 + x 2 + x 3) = sum_in_fours 16 x words size h in
    let f : sum words ≡ 16 * r * (a + b + c + d) = s
    ∙ ap (λ y. 16 * y) (both (x 0) (x 1) (x 2) (x 3) (r * a) (r * b) (r * c) (r * d) e0 e1 e2 e3) ∙ factored r a b c d in
    ap (λ y. y % 2 ^ 64) f ∙ mod-eq_of_lt (factored_small r a b c d lr la lb lc ld)
  where
    both : (p q s t p2 q2 s2 t2 : ℕ) → p ≡ p2 → q ≡ q2 → s ≡ s2 → t ≡ t2 → p + q + s + t ≡ p2 + q2 + s2 + t2
    both p q s t p2 q2 s2 t2 a b c d = omega arith
