use Rattle.std.proofs.Common.{refl}
use Rattle.block_tags.specs.Packed.{tag_in}
use Rattle.block_tags.proofs.packed.PackedTags.invalid.Goals as goal

pub returns : goal.returns
unfolding tag_in
returns c = refl
