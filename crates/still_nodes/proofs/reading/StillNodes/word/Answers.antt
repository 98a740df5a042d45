use Rattle.std.proofs.Common.{◌*◌, ◌<◌, ◌∙◌, ap, sym, subst}
use Rattle.block_tags.specs.Copies.{Copies, word_at}
use Rattle.still_meaning.specs.Stills.{AreWhole, StillShown}
use Rattle.still_nodes.proofs.Places.{address_there, word_there}
use Rattle.still_nodes.proofs.reading.StillNodes.word.Goals as goal

pub peek-requires : goal.peek-requires
peek-requires c =
    let whole : AreWhole c.args.self.now = subst (λ (s : StillShown). AreWhole s) c.self.view_is c.self.invariant in
    let there =
    address_there _ _ _ c.node-read.result.now whole c.node-read.ensures c.entries-log.ensures.well c.requires.address in
    subst (λ (m : Copies). c.args.address < m.shape.words * m.shape.blocks) (sym c.blocks-2.ensures) there

pub returns : goal.returns
returns c =
    let s = c.args.self.now in
    let n = c.node-read.result.now in
    c.peek.ensures.value
    ∙ ap (λ (m : Copies). word_at m c.args.address) c.blocks-2.ensures
    ∙ word_there s c.args.node c.args.address n c.node-read.ensures c.entries-log.ensures.well
