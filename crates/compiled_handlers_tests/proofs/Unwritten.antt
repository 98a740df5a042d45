-- The tag and the words of a block, where those of another were written.
use Rattle.std.proofs.Common.{◌≡◌, ◌≢◌, ◌∙◌, ℕ, suc, ◌+◌, ◌-◌, ◌*◌, ◌<◌, ◌≤◌, List, ◌++◌, length, take, drop, ap, sym, inl, inr}
use Rattle.std.proofs.Common.{arith, append_assoc, length-append, length-drop}
use Rattle.std.proofs.Math.Nat.{mul-le-mul_right}
use Rattle.std.proofs.Math.Seq.{drop-append-add}
use Rattle.std.proofs.lemmas.Bool.{cases_lt}
use Rattle.std.proofs.lemmas.List.{drop-append-le, drop-drop, get_or-set_other, length-take-le, take-append-drop, take-append-le}
use Rattle.tw_base.specs.declared.value.Tag.{Tag}
use Rattle.tw_base.specs.declared.value.Tag.TheVariants.{Invalid}
use Rattle.block_tags.specs.Copies.{Copies, IsWhole, block_words, tag_of, with_block, with_tag}

pub tag_unwritten : (m : Copies) (block other : ℕ) (tag : Tag) (contents : List ℕ) → other ≢ block →
    tag_of (with_block (with_tag m block tag) block contents) other ≡ tag_of m other
tag_unwritten m block other tag contents differs = get_or-set_other m.tags block other tag Invalid differs

front : (w p : ℕ) (xs ys : List ℕ) → p + w ≤ length xs → take w (drop p (xs ++ ys)) ≡ take w (drop p xs)
front w p xs ys h = ap (take w) (drop-append-le p xs ys (omega (arith, h)))
    ∙ take-append-le w (drop p xs) ys (omega (arith, h, length-drop p xs))

-- the words before those that were written
before : (w p n : ℕ) (xs ys zs : List ℕ) → p + w ≤ n → n ≤ length xs →
    take w (drop p (take n xs ++ ys ++ zs)) ≡ take w (drop p xs)
before w p n xs ys zs h few =
    let within : p + w ≤ length (take n xs) = omega (arith, h, length-take-le n xs few) in
    ap (λ l. take w (drop p l)) (append_assoc (take n xs) ys zs)
    ∙ front w p (take n xs) (ys ++ zs) within
    ∙ sym (front w p (take n xs) (drop n xs) within)
    ∙ ap (λ l. take w (drop p l)) (take-append-drop n xs)

-- those behind them
behind_by : (w n d : ℕ) (xs ys : List ℕ) → n ≤ length xs → length ys ≡ w →
    drop (n + w + d) (take n xs ++ ys ++ drop (n + w) xs) ≡ drop (n + w + d) xs
behind_by w n d xs ys few full =
    let long : length (take n xs ++ ys) ≡ n + w = omega (arith, length-append (take n xs) ys, length-take-le n xs few, full) in
    ap (λ k. drop (k + d) (take n xs ++ ys ++ drop (n + w) xs)) (sym long)
    ∙ drop-append-add (take n xs ++ ys) (drop (n + w) xs) d ∙ drop-drop d (n + w) xs

behind : (w p n : ℕ) (xs ys : List ℕ) → n + w ≤ p → n ≤ length xs → length ys ≡ w →
    take w (drop p (take n xs ++ ys ++ drop (n + w) xs)) ≡ take w (drop p xs)
behind w p n xs ys far few full =
    let is : p ≡ n + w + (p - (n + w)) = omega (arith, far) in
    ap (λ k. take w (drop k (take n xs ++ ys ++ drop (n + w) xs))) is
    ∙ ap (take w) (behind_by w n (p - (n + w)) xs ys few full) ∙ ap (λ k. take w (drop k xs)) (sym is)

pub words_unwritten : (m : Copies) (block other : ℕ) (tag : Tag) (contents : List ℕ) → IsWhole m → block < m.shape.blocks →
    length contents ≡ m.shape.words → other ≢ block
    → block_words (with_block (with_tag m block tag) block contents) other ≡ block_words m other
words_unwritten m block other tag contents whole within full differs =
    let w = m.shape.words in
    let room : suc block * w ≤ m.shape.blocks * w = mul-le-mul_right w (omega (arith, within)) in
    let few : block * w ≤ length m.words = omega (arith, whole.words, room) in
    elim (cases_lt block other) [
      | inl below ↦
          let far : suc block * w ≤ other * w = mul-le-mul_right w (omega (arith, below)) in
          behind w (other * w) (block * w) m.words contents (omega (arith, far)) few full
      | inr above ↦
          let near : suc other * w ≤ block * w = mul-le-mul_right w (omega (arith, above, differs)) in
          before w (other * w) (block * w) m.words contents (drop (block * w + w) m.words) (omega (arith, near)) few
    ]
