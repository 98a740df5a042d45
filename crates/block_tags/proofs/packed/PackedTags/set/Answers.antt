use Rattle.block_tags.proofs.Tags.{tags_set}
use Rattle.block_tags.proofs.packed.PackedTags.set.Goals as goal

pub returns : goal.returns
returns c =
    rw (← c.self.view_is) (tags_set _ _ _ _ _ _ c.requires (cc) c.put-self-inside.ensures.others
    c.put-self-inside-2.ensures.others)
