-- The words of a block in a list of all words, before and after one word is written.
use Rattle.std.proofs.Common.{◌≡◌, ◌≢◌, ℕ, suc, ◌+◌, ◌-◌, ◌*◌, ◌/◌, ◌%◌, ◌<◌, ◌≤◌, List, drop, take, set, get_or, ap, sym, ◌∙◌}
use Rattle.std.proofs.Common.{inl, inr, arith, add_comm}
use Rattle.std.specs.Prelude.{slice_index, slice_set}
use Rattle.std.proofs.lemmas.Bool.{cases_lt}
use Rattle.std.proofs.Math.Nat.{mod-add-div', mul-le-mul_right}
use Rattle.std.proofs.Math.Seq.{take-set-lt}
use Rattle.std.proofs.lemmas.List.{drop-set-add, drop-set-lt, take-set-le, get_or-take, get_or-drop}
use Rattle.block_tags.specs.Copies.{block_slice}

parts : (w a : ℕ) → a / w * w + a % w ≡ a
parts w a = add_comm (a / w * w) (a % w) ∙ mod-add-div' a w

-- the word at an address is one of its block's
pub slice_word : (w a : ℕ) (words : List ℕ) → 0 < w → slice_index (block_slice w words (a / w)) (a % w) ≡ slice_index words a
slice_word w a words some =
    let within : a % w < w = omega (arith, some) in
    get_or-take w (drop (a / w * w) words) (a % w) 0 within ∙ get_or-drop (a / w * w) words (a % w) 0
    ∙ ap (λ k. get_or words k 0) (parts w a)

-- written in its own block
pub slice_written : (w a v : ℕ) (words : List ℕ) → 0 < w → block_slice w (slice_set words a v) (a / w)
    ≡ slice_set (block_slice w words (a / w)) (a % w) v
slice_written w a v words some =
    let within : a % w < w = omega (arith, some) in
    ap (λ k. take w (drop (a / w * w) (set words k v))) (sym (parts w a))
    ∙ ap (take w) (drop-set-add (a / w * w) words (a % w) v)
    ∙ take-set-lt w (drop (a / w * w) words) (a % w) v within

-- written in another
pub slice_unwritten : (w a v b : ℕ) (words : List ℕ) → 0 < w → b ≢ a / w →
    block_slice w (slice_set words a v) b ≡ block_slice w words b
slice_unwritten w a v b words some other = elim (cases_lt (a / w) b) [
  | inl below ↦
      let room : suc (a / w) * w ≤ b * w = mul-le-mul_right w below in
      let before : a < b * w = omega (arith, parts w a, some, room) in
      ap (take w) (drop-set-lt (b * w) words a v before)
  | inr above ↦
      let room : suc b * w ≤ a / w * w = mul-le-mul_right w (omega (arith, above, other)) in
      behind (b * w) (omega (arith, parts w a, room))
]
  where
    behind : (p : ℕ) → p + w ≤ a → take w (drop p (set words a v)) ≡ take w (drop p words)
    behind p far = split p (far_by p far)
      where
        split : (p : ℕ) → ((d : ℕ) × (a ≡ p + d) × (w ≤ d)) → take w (drop p (set words a v)) ≡ take w (drop p words)
        split p (d, e, big) = ap (λ k. take w (drop p (set words k v))) e ∙ ap (take w) (drop-set-add p words d v)
            ∙ take-set-le w (drop p words) d v big

        far_by : (p : ℕ) → p + w ≤ a → (d : ℕ) × (a ≡ p + d) × (w ≤ d)
        far_by p far = (a - p, omega arith, omega arith)
