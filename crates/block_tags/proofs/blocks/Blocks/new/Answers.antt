use Rattle.std.proofs.Common.{◌∙◌, ap, length}
use Rattle.std.proofs.lemmas.List.FromFn.{length-map-range_with_len}
use Rattle.block_tags.proofs.blocks.Blocks.new.Goals as goal

pub invariant_of-result : goal.invariant_of-result
invariant_of-result c = (
  c.size.ensures.limits,
  c.first_tags.ensures.long,
  ap length c.in_ok-words.ensures
      ∙ length-map-range_with_len _ 0 _ ∙ c.size.ensures.value,
)
