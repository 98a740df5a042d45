use Rattle.std.proofs.Common.{◌≡◌, ℕ, ◌<◌, ◌≤◌, ◌∙◌, [], ap, subst}
use Rattle.tw_base.specs.Shape.{Sizes}
use Rattle.still_meaning.specs.Stills.{AreWhole, StillShown}
use Rattle.still_nodes.specs.Handing.{LeavesOthers, waits_at}
use Rattle.still_nodes.proofs.Handed.{passes_more}
use Rattle.still_nodes.proofs.Spreading.{made_is, spread_end, spread_start, spread_turn}
use Rattle.still_nodes.proofs.still.Still.spread_all.Goals as goal

pub loop-number-init : goal.loop-number-init
loop-number-init c = spread_start c.refill_all.new.self c.refill_all.ensures.filled

pub returns-in_err-hand_out_all-clause-passes : goal.returns-in_err-hand_out_all-clause-passes
returns-in_err-hand_out_all-clause-passes c =
    passes_more c.args.self.now c.refill_all.new.self c.hand_out_all.new.self c.refill_all.ensures.passes
    (passes_more c.refill_all.new.self c.loop-number.self c.hand_out_all.new.self c.loop-number.invariant.passes
    c.hand_out_all.ensures.passes)

pub loop-number-preserved : goal.loop-number-preserved
loop-number-preserved c =
    let is =
    made_is c.new.result (c.loop-number.number < 8) c.loop-number.number c.unwrap-node.result c.new.ensures
    c.unwrap-node.ensures in
    spread_turn c.refill_all.new.self c.loop-number.self c.hand_out_all.new.self c.loop-number.number c.loop-number.invariant
    c.hand_out_all.ensures.passes
    (subst (λ (k : ℕ). LeavesOthers c.loop-number.self c.hand_out_all.new.self k) is c.hand_out_all.ensures.others)
    (subst (λ (k : ℕ). waits_at c.hand_out_all.new.self k ≡ []) is c.in_ok-hand_out_all.ensures.out)

pub returns-clause-passes : goal.returns-clause-passes
returns-clause-passes c =
    passes_more c.args.self.now c.refill_all.new.self c.loop-number.self c.refill_all.ensures.passes
    c.loop-number.invariant.passes

pub returns-clause-spread : goal.returns-clause-spread
returns-clause-spread c =
    let most : c.refill_all.new.self.setup.shape.nodes ≤ c.loop-number.number =
    subst (λ (k : ℕ). k ≤ c.loop-number.number)
    (c.nodes-number-end.ensures.value ∙ ap (λ (s : Sizes). s.nodes) c.shape.ensures.value
    ∙ ap (λ (x : StillShown). x.setup.shape.nodes) c.self.view_is) c.loop-number-test.false in
    spread_end c.refill_all.new.self c.loop-number.self c.loop-number.number
    (subst (λ (x : StillShown). AreWhole x) c.self.view_is c.self.invariant) most c.loop-number.invariant
