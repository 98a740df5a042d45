-- Copies after the tag and the words of one block were written: the other blocks, and the lists as a whole.
use Rattle.std.proofs.Common.{◌≡◌, ◌≢◌, ℕ, suc, ◌+◌, ◌*◌, ◌-◌, ◌<◌, ◌≤◌, List, ◌++◌, length, take, drop, ap, sym, ◌∙◌, inl, inr}
use Rattle.std.proofs.Common.{arith, append_assoc, length-append, length-drop, get_or-set_other}
use Rattle.std.proofs.Math.ListN.{length-set}
use Rattle.std.proofs.Math.Nat.{mul-le-mul_right}
use Rattle.std.proofs.Math.Seq.{drop-append-add}
use Rattle.std.proofs.lemmas.Bool.{cases_lt}
use Rattle.std.proofs.lemmas.List.{take-append-drop, take-append-le, drop-append-le, length-take-le}
use Rattle.tw_base.specs.declared.value.Tag.{Tag}
use Rattle.tw_base.specs.declared.value.Tag.TheVariants.{Invalid}
use Rattle.block_tags.specs.Copies.{Copies, IsWhole, block_words, tag_of, with_block, with_tag}

-- the words from k on that end before the end of xs
ahead : (xs ys zs : List ℕ) (k w : ℕ) → k + w ≤ length xs → take w (drop k (xs ++ ys)) ≡ take w (drop k (xs ++ zs))
ahead xs ys zs k w room = one ys ∙ sym (one zs)
  where
    one : (us : List ℕ) → take w (drop k (xs ++ us)) ≡ take w (drop k xs)
    one us = ap (take w) (drop-append-le k xs us (omega (arith, room)))
        ∙ take-append-le w (drop k xs) us (omega (arith, room, length-drop k xs))

-- the words from past the end of xs on
behind : (xs xs2 ys : List ℕ) (k : ℕ) → length xs ≡ length xs2 → length xs ≤ k → drop k (xs ++ ys) ≡ drop k (xs2 ++ ys)
behind xs xs2 ys k same past =
    let n : ℕ = k - length xs in
    let at : k ≡ length xs + n = omega (arith, past) in
    let at2 : k ≡ length xs2 + n = omega (arith, past, same) in
    ap (λ j. drop j (xs ++ ys)) at ∙ drop-append-add xs ys n ∙ sym (ap (λ j. drop j (xs2 ++ ys)) at2 ∙ drop-append-add xs2 ys n)

-- other words written between n and n + w
before_them : (ws contents : List ℕ) (n k w : ℕ) → n ≤ length ws → k + w ≤ n
    → take w (drop k (take n ws ++ contents ++ drop (n + w) ws)) ≡ take w (drop k ws)
before_them ws contents n k w long room =
    let front : length (take n ws) ≡ n = length-take-le n ws long in
    ap (λ (l : List ℕ). take w (drop k l)) (append_assoc (take n ws) contents (drop (n + w) ws))
    ∙ ahead (take n ws) (contents ++ drop (n + w) ws) (drop n ws) k w (omega (arith, front, room))
    ∙ ap (λ (l : List ℕ). take w (drop k l)) (take-append-drop n ws)

past_them : (ws contents : List ℕ) (n k w : ℕ) → n + w ≤ length ws → length contents ≡ w → n + w ≤ k
    → drop k (take n ws ++ contents ++ drop (n + w) ws) ≡ drop k ws
past_them ws contents n k w long full past =
    let front : length (take n ws) ≡ n = length-take-le n ws (omega (arith, long)) in
    let both : length (take n ws ++ contents) ≡ n + w = length-append (take n ws) contents ∙ omega (arith, front, full) in
    let all : length (take (n + w) ws) ≡ n + w = length-take-le (n + w) ws long in
    behind (take n ws ++ contents) (take (n + w) ws) (drop (n + w) ws) k (both ∙ sym all) (omega (arith, both, past))
    ∙ ap (drop k) (take-append-drop (n + w) ws)

block_ends : (w blocks block : ℕ) → block < blocks → block * w + w ≤ w * blocks
block_ends w blocks block lt =
    let h : suc block * w ≤ blocks * w = mul-le-mul_right w (omega (arith, lt)) in omega (arith, h)

-- ---- the block beside another that was written

pub other_tag : (m : Copies) (block other : ℕ) (tag : Tag) (contents : List ℕ) → other ≢ block
    → tag_of (with_block (with_tag m block tag) block contents) other ≡ tag_of m other
other_tag m block other tag contents d = get_or-set_other m.tags block other tag Invalid d

pub other_words : (m : Copies) (block other : ℕ) (tag : Tag) (contents : List ℕ) → IsWhole m → block < m.shape.blocks
    → length contents ≡ m.shape.words → other ≢ block
    → block_words (with_block (with_tag m block tag) block contents) other ≡ block_words m other
other_words m block other tag contents whole lt full d = elim (cases_lt other block) [
  | inl below ↦
      let room : suc other * m.shape.words ≤ block * m.shape.words = mul-le-mul_right m.shape.words below in
      before_them m.words contents (block * m.shape.words) (other * m.shape.words) m.shape.words
      (omega (arith, whole.words, block_ends m.shape.words m.shape.blocks block lt)) (omega (arith, room))
  | inr above ↦
      let room : suc block * m.shape.words ≤ other * m.shape.words = mul-le-mul_right m.shape.words (omega (arith, above, d)) in
      ap (take m.shape.words) (past_them m.words contents (block * m.shape.words) (other * m.shape.words) m.shape.words
      (omega (arith, whole.words, block_ends m.shape.words m.shape.blocks block lt)) full (omega (arith, room)))
]

-- ---- all blocks

pub written_whole : (m : Copies) (block : ℕ) (tag : Tag) (contents : List ℕ) → IsWhole m → block < m.shape.blocks
    → length contents ≡ m.shape.words → IsWhole (with_block (with_tag m block tag) block contents)
written_whole m block tag contents whole lt full = record {
  limits = whole.limits;
  tags = length-set m.tags block tag ∙ whole.tags;
  words = words;
}
  where
    w : ℕ
    w = m.shape.words

    words : length (take (block * m.shape.words) m.words ++ contents ++ drop (block * m.shape.words + m.shape.words) m.words)
        ≡ m.shape.words * m.shape.blocks
    words =
        let n : ℕ = block * m.shape.words in
        let long : n + m.shape.words ≤ length m.words = omega
        (arith, whole.words, block_ends m.shape.words m.shape.blocks block lt) in
        let front : length (take n m.words) ≡ n = length-take-le n m.words (omega (arith, long)) in
        let both : length (take n m.words ++ contents) ≡ length (take n m.words) + length contents = length-append
        (take n m.words) contents in
        let rest : length (drop (n + m.shape.words) m.words) ≡ length m.words - (n + m.shape.words) = length-drop
        (n + m.shape.words) m.words in
        length-append (take n m.words ++ contents) (drop (n + m.shape.words) m.words)
        ∙ omega (arith, front, both, rest, full, long, whole.words)
