use Rattle.std.proofs.Common.{ℕ, ◌<◌, subst}
use Rattle.tw_base.specs.declared.message.Chan.TheVariants.{Zero, One}
use Rattle.still_nodes.specs.Handing.{Refills}
use Rattle.still_nodes.proofs.Spreading.{from_turn, made_is}
use Rattle.still_nodes.proofs.still.Still.refill_node.Goals as goal

pub loop-number-preserved : goal.loop-number-preserved
loop-number-preserved c =
    let is =
    made_is c.new.result (c.loop-number.number < 8) c.loop-number.number c.unwrap-from.result c.new.ensures
    c.unwrap-from.ensures in
    from_turn c.args.self.now c.loop-number.self c.refill.new.self c.refill-in-loop-number.new.self c.args.to
    c.loop-number.number c.loop-number.invariant
    (subst (λ (k : ℕ). Refills c.loop-number.self c.refill.new.self k c.args.to Zero) is c.refill.ensures)
    (subst (λ (k : ℕ). Refills c.refill.new.self c.refill-in-loop-number.new.self k c.args.to One) is
    c.refill-in-loop-number.ensures)
