-- Words and ends that are those of a state of the model are told as that state's.
use Rattle.std.proofs.Common.{◌≡◌, ℕ, zero, suc, ◌+◌, ◌*◌, ◌/◌, ◌%◌, ◌<◌, Bool, true, false, cond, find, map, Option, Some}
use Rattle.std.proofs.Common.{None, ◌∷◌, refl, ap, subst, ◌∙◌, arith, mul_comm}
use Rattle.std.specs.Prelude.{unwrap_or}
use Rattle.std.specs.List.{range_with_len}
use Rattle.std.proofs.Math.Nat.{div-lt_iff_lt-mul, mod-lt}
use Rattle.tw_base.specs.Shape.{IsWithinLimits, Sizes}
use Rattle.tw_base.specs.declared.value.Tag.{Tag}
use Rattle.block_tags.specs.Copies.{permits}
use Rattle.dsm_runs.specs.Setups.{Setup}
use Rattle.dsm_runs.specs.Worlds.{World}
use Rattle.journal.specs.Finals.{counted_final, counted_finals, told_finals}
use Rattle.journal.specs.Gathered.{least_with, tag_in, teller_by, told_by, told_words, word_in, words_of}
use Rattle.journal.specs.Standing.{StandsAs}
use Rattle.journal.specs.declared.finals.Final.{Final}
use Rattle.journal.proofs.Seeking.{within}

-- ---- lists by number, of functions that agree on them

same_map : {X : Type 0} (f h : ℕ → X) (k n : ℕ) → ((i : ℕ) → i < k + n → f i ≡ h i) →
    map f (range_with_len k n) ≡ map h (range_with_len k n)
same_map f h k zero e = refl
same_map f h k (suc n) e =
    let rest : map f (range_with_len (k + 1) n) ≡ map h (range_with_len (k + 1) n) = same_map f h (k + 1) n
    (λ i l. e i (omega (arith, l))) in
    ap (λ x. x ∷ map f (range_with_len (k + 1) n)) (e k (omega arith)) ∙ ap (λ xs. h k ∷ xs) rest

same_find : (p q : ℕ → Bool) (k n : ℕ) → ((i : ℕ) → i < k + n → p i ≡ q i) →
    find p (range_with_len k n) ≡ find q (range_with_len k n)
same_find p q k zero e = refl
same_find p q k (suc n) e =
    let rest : find p (range_with_len (k + 1) n) ≡ find q (range_with_len (k + 1) n) = same_find p q (k + 1) n
    (λ i l. e i (omega (arith, l))) in
    ap (λ b. cond b (Some k) (find p (range_with_len (k + 1) n))) (e k (omega arith)) ∙ ap (λ o. cond (q k) (Some k) o) rest

-- ---- the node that is asked

same_least : (n : ℕ) (tags tags2 : ℕ → Tag) (store : Bool) → ((i : ℕ) → i < n → tags i ≡ tags2 i) →
    least_with n tags store ≡ least_with n tags2 store
same_least n tags tags2 store e = same_find (λ i. permits (tags i) store) (λ i. permits (tags2 i) store) 0 n
    (λ i l. ap (λ (t : Tag). permits t store) (e i (omega (arith, l))))

same_teller : (shape : Sizes) (tag tag2 : ℕ → ℕ → Tag) (b : ℕ) → ((i : ℕ) → i < shape.nodes → tag i b ≡ tag2 i b) →
    teller_by shape tag b ≡ teller_by shape tag2 b
same_teller shape tag tag2 b e =
    let writer = same_least shape.nodes (λ i. tag i b) (λ i. tag2 i b) true e in
    let reader = same_least shape.nodes (λ i. tag i b) (λ i. tag2 i b) false e in
    ap (λ (o : Option ℕ). unwrap_or o (unwrap_or (least_with shape.nodes (λ i. tag i b) false) (b % shape.nodes))) writer
    ∙ ap (λ (o : Option ℕ). unwrap_or (least_with shape.nodes (λ i. tag2 i b) true) (unwrap_or o (b % shape.nodes))) reader

-- what is found of n numbers, or else one below n, is below n
below_or : (n : ℕ) (p : ℕ → Bool) (other : ℕ) → other < n → unwrap_or (find p (range_with_len 0 n)) other < n
below_or n p other l = go (find p (range_with_len 0 n)) refl
  where
    go : (o : Option ℕ) → find p (range_with_len 0 n) ≡ o → unwrap_or o other < n
    go None e = l
    go (Some x) e = let lt : x < 0 + n = within p 0 n x e in omega (arith, lt)

teller_below : (shape : Sizes) (tag : ℕ → ℕ → Tag) (b : ℕ) → 0 < shape.nodes → teller_by shape tag b < shape.nodes
teller_below shape tag b some =
    below_or shape.nodes (λ i. permits (tag i b) true) _ (below_or shape.nodes (λ i. permits (tag i b) false) _
    (mod-lt b some))

-- ---- the words

block_below : (words blocks address : ℕ) → 0 < words → address < words * blocks → address / words < blocks
block_below words blocks address some l = (div-lt_iff_lt-mul some).1 (subst (λ n. address < n) (mul_comm words blocks) l)

told_words_same : (shape : Sizes) (tag tag2 : ℕ → ℕ → Tag) (word word2 : ℕ → ℕ → ℕ) → IsWithinLimits shape →
    ((i b : ℕ) → i < shape.nodes → b < shape.blocks → tag i b ≡ tag2 i b) →
    ((i address : ℕ) → i < shape.nodes → address < shape.words * shape.blocks → word i address ≡ word2 i address) →
    told_words shape tag word ≡ told_words shape tag2 word2
told_words_same shape tag tag2 word word2 limits tags words =
    same_map (told_by shape tag word) (told_by shape tag2 word2) 0 (shape.words * shape.blocks) one
  where
    one : (a : ℕ) → a < 0 + shape.words * shape.blocks → told_by shape tag word a ≡ told_by shape tag2 word2 a
    one a l =
        let lt : a < shape.words * shape.blocks = omega (arith, l) in
        let b : ℕ = a / shape.words in
        let asked = same_teller shape tag tag2 b (λ i li. tags i b li
        (block_below shape.words shape.blocks a limits.some_word lt)) in
        ap (λ i. word i a) asked ∙ words (teller_by shape tag2 b) a (teller_below shape tag2 b limits.some_node) lt

pub told_words_are : (s : Setup) (g : World) (ops records : ℕ → ℕ) (shape : Sizes) (tag : ℕ → ℕ → Tag) (word : ℕ → ℕ → ℕ)
    (ended : ℕ → Final) →
    IsWithinLimits s.shape → StandsAs s g ops records shape tag word ended → told_words shape tag word ≡ words_of s g
told_words_are s g ops records shape tag word ended limits stands =
    ap (λ (z : Sizes). told_words z tag word) stands.sizes
    ∙ told_words_same s.shape tag (tag_in g) word (word_in s g) limits stands.tags stands.words

-- ---- the ends

pub told_finals_are : (s : Setup) (g : World) (ops records : ℕ → ℕ) (shape : Sizes) (tag : ℕ → ℕ → Tag) (word : ℕ → ℕ → ℕ)
    (ended : ℕ → Final) →
    StandsAs s g ops records shape tag word ended → told_finals shape.nodes ended ≡ counted_finals s g ops records
told_finals_are s g ops records shape tag word ended stands =
    ap (λ (z : Sizes). told_finals z.nodes ended) stands.sizes
    ∙ same_map ended (λ i. counted_final s (g.locals i) (ops i) (records i)) 0 s.shape.nodes
    (λ i l. stands.ends i (omega (arith, l)))
