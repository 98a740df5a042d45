use Rattle.std.proofs.Common.{◌<◌, sym, subst}
use Rattle.block_tags.specs.Copies.{Copies}
use Rattle.still_meaning.specs.Stills.{AreWhole, StillShown}
use Rattle.still_nodes.proofs.Places.{block_there}
use Rattle.still_nodes.proofs.reading.StillNodes.tag.Goals as goal

pub tag-requires : goal.tag-requires
tag-requires c =
    let whole : AreWhole c.args.self.now = subst (λ (s : StillShown). AreWhole s) c.self.view_is c.self.invariant in
    let there = block_there _ _ _ c.node-read.result.now whole c.node-read.ensures c.entries-log.ensures.well c.requires.block in
    subst (λ (m : Copies). c.args.block < m.shape.blocks) (sym c.blocks-2.ensures) there
