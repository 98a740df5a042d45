-- The list of the tags that two words of bits stand for.
use Rattle.std.proofs.Common.{◌≡◌, ◌≢◌, ℕ, ◌<◌, length, get_or, set, sym, ap, ◌∙◌, inl, inr, arith}
use Rattle.std.proofs.Math.ListN.{length-set}
use Rattle.std.proofs.lemmas.Bool.{cases_eq}
use Rattle.std.proofs.lemmas.List.{get_or-set_same, get_or-set_other}
use Rattle.std.proofs.lemmas.List.FromFn.{fill_by_all, get_or-map-range_with_len, length-map-range_with_len}
use Rattle.tw_base.specs.declared.value.Tag.{Tag}
use Rattle.tw_base.specs.declared.value.Tag.TheVariants.{Invalid}
use Rattle.tw_base.specs.Bits.{has_bit}
use Rattle.block_tags.specs.Packed.{tag_by, tag_in, tags_in}

pub tag_at : (r w k : ℕ) → k < 64 → get_or (tags_in r w) k Invalid ≡ tag_by (has_bit r k) (has_bit w k)
unfolding tag_in
tag_at r w k h = get_or-map-range_with_len (tag_in r w) 0 64 k k Invalid h (omega arith)

-- with the bits of one block changed
pub tags_set : (r w r2 w2 block : ℕ) (tag : Tag) → block < 64 → tag_by (has_bit r2 block) (has_bit w2 block) ≡ tag
    → ((k : ℕ) → k < 64 → k ≢ block → has_bit r2 k ≡ has_bit r k) → ((k : ℕ) → k < 64 → k ≢ block → has_bit w2 k ≡ has_bit w k)
    → tags_in r2 w2 ≡ set (tags_in r w) block tag
unfolding tag_in
tags_set r w r2 w2 block tag h here reads writes =
    let long : length (tags_in r w) ≡ 64 = length-map-range_with_len (tag_in r w) 0 64 in
    sym (fill_by_all (tag_in r2 w2) (set (tags_in r w) block tag) 64 Invalid (length-set (tags_in r w) block tag ∙ long)
    (λ k lt. elim (cases_eq k block) [
      | inl e ↦ rw e (get_or-set_same (tags_in r w) block tag Invalid (omega (arith, long)) ∙ sym here)
      | inr ne ↦ get_or-set_other (tags_in r w) block k tag Invalid ne ∙ tag_at r w k lt
          ∙ sym (ap (λ b. tag_by b (has_bit w k)) (reads k lt ne)) ∙ sym (ap (tag_by (has_bit r2 k)) (writes k lt ne))
    ]))
