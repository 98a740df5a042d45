-- The tag and the words of a block that were written.
use Rattle.std.proofs.Common.{◌≡◌, ◌∙◌, ℕ, suc, ◌+◌, ◌*◌, ◌<◌, ◌≤◌, List, ◌++◌, length, take, drop, ap, sym, arith}
use Rattle.std.proofs.Common.{append_assoc, length-drop}
use Rattle.std.proofs.Math.Nat.{mul-le-mul_right}
use Rattle.std.proofs.Math.Seq.{drop-append_seam, take-append_seam}
use Rattle.std.proofs.lemmas.List.{get_or-set_same, length-take-le}
use Rattle.tw_base.specs.declared.value.Tag.{Tag}
use Rattle.tw_base.specs.declared.value.Tag.TheVariants.{Invalid}
use Rattle.block_tags.specs.Copies.{Copies, IsWhole, block_words, tag_of, with_block, with_tag}

-- the words of a block lie among all words
block_fits : (words blocks block : ℕ) → block < blocks → block * words + words ≤ words * blocks
block_fits words blocks block lt =
    let h : suc block * words ≤ blocks * words = mul-le-mul_right words (omega (arith, lt)) in omega (arith, h)

pub words_full : (m : Copies) (block : ℕ) → IsWhole m → block < m.shape.blocks → length (block_words m block) ≡ m.shape.words
words_full m block whole lt =
    length-take-le m.shape.words (drop (block * m.shape.words) m.words)
    (omega (
      arith,
      length-drop (block * m.shape.words) m.words,
      whole.words,
      block_fits m.shape.words m.shape.blocks block lt,
    ))

pub tag_written : (m : Copies) (block : ℕ) (tag : Tag) (contents : List ℕ) → IsWhole m → block < m.shape.blocks →
    tag_of (with_block (with_tag m block tag) block contents) block ≡ tag
tag_written m block tag contents whole lt = get_or-set_same m.tags block tag Invalid (omega (arith, lt, whole.tags))

middle : (xs ys zs : List ℕ) (start width : ℕ) → length xs ≡ start → length ys ≡ width →
    take width (drop start (xs ++ ys ++ zs)) ≡ ys
middle xs ys zs start width e f =
    ap (λ l. take width (drop start l)) (append_assoc xs ys zs) ∙ ap (λ n. take width (drop n (xs ++ (ys ++ zs)))) (sym e)
    ∙ ap (take width) (drop-append_seam xs (ys ++ zs)) ∙ ap (λ n. take n (ys ++ zs)) (sym f) ∙ take-append_seam ys zs

pub words_written : (m : Copies) (block : ℕ) (tag : Tag) (contents : List ℕ) → IsWhole m → block < m.shape.blocks →
    length contents ≡ m.shape.words → block_words (with_block (with_tag m block tag) block contents) block ≡ contents
words_written m block tag contents whole lt full =
    middle (take (block * m.shape.words) m.words) contents (drop (block * m.shape.words + m.shape.words) m.words)
    (block * m.shape.words) m.shape.words (length-take-le (block * m.shape.words) m.words
    (omega (arith, whole.words, block_fits m.shape.words m.shape.blocks block lt))) full
