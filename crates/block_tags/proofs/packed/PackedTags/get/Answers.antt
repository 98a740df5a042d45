use Rattle.block_tags.proofs.Tags.{tag_at}
use Rattle.block_tags.proofs.packed.PackedTags.get.Goals as goal

pub returns : goal.returns
returns c = rw (← c.self.view_is, tag_at _ _ _ c.requires) (cc)
