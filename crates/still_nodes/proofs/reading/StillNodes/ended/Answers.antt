use Rattle.std.proofs.Common.{◌∙◌, ap, sym, subst}
use Rattle.still_meaning.specs.Stills.{AreWhole, StillShown}
use Rattle.still_nodes.proofs.Places.{shape_there}
use Rattle.still_nodes.proofs.reading.StillNodes.ended.Goals as goal

pub final_of-requires : goal.final_of-requires
final_of-requires c =
    let whole : AreWhole c.args.self.now = subst (λ (s : StillShown). AreWhole s) c.self.view_is c.self.invariant in
    c.shape.ensures.value
    ∙ ap (λ (s : StillShown). s.setup.shape) c.self.view_is
    ∙ sym (shape_there c.args.self.now c.args.node c.node.result.now whole c.node.ensures)
