use Rattle.std.proofs.Common.{ℕ, ◌<◌, ◌≤◌, ◌∙◌, ap, subst}
use Rattle.tw_base.specs.Shape.{Sizes}
use Rattle.still_meaning.specs.Stills.{AreWhole, StillShown}
use Rattle.still_nodes.specs.Handing.{RefillsTo}
use Rattle.still_nodes.proofs.Spreading.{made_is, to_all, to_turn}
use Rattle.still_nodes.proofs.still.Still.refill_all.Goals as goal

pub loop-number-preserved : goal.loop-number-preserved
loop-number-preserved c =
    let is =
    made_is c.new.result (c.loop-number.number < 8) c.loop-number.number c.unwrap-to.result c.new.ensures
    c.unwrap-to.ensures in
    to_turn c.args.self.now c.loop-number.self c.refill_node.new.self c.loop-number.number c.loop-number.invariant
    (subst (λ (k : ℕ). RefillsTo c.loop-number.self c.refill_node.new.self k) is c.refill_node.ensures)

pub returns : goal.returns
returns c =
    let most : c.args.self.now.setup.shape.nodes ≤ c.loop-number.number =
    subst (λ (k : ℕ). k ≤ c.loop-number.number)
    (c.nodes-number-end.ensures.value ∙ ap (λ (s : Sizes). s.nodes) c.shape.ensures.value
    ∙ ap (λ (x : StillShown). x.setup.shape.nodes) c.self.view_is) c.loop-number-test.false in
    to_all c.args.self.now c.loop-number.self c.loop-number.number
    (subst (λ (x : StillShown). AreWhole x) c.self.view_is c.self.invariant) most c.loop-number.invariant
