use Rattle.std.proofs.Common.{subst, sym}
use Rattle.still_nodes.specs.Handing.{IsSpreadBut}
use Rattle.still_nodes.proofs.Acting.{made_and_passed, none_made, one_made, refilled_but}
use Rattle.still_nodes.proofs.still.Still.make.Goals as goal

pub returns-in_err-act-clause-err : goal.returns-in_err-act-clause-err
returns-in_err-act-clause-err c =
    none_made c.from_residual.result c.args.self.now c.act.new.self c.args.event c.in_err-act.ensures.err

pub returns-in_err-spread-clause-err : goal.returns-in_err-spread-clause-err
returns-in_err-spread-clause-err c =
    let a = c.args.self.now in
    one_made c.from_residual-in_err-spread.result a c.spread.new.self c.args.event
    (made_and_passed a c.refill_after.new.self c.spread.new.self c.args.event
    (made_and_passed a c.act.new.self c.refill_after.new.self c.args.event c.in_ok-act.ensures.acts.made
    c.refill_after.ensures.passes) c.spread.ensures.passes)

pub returns-clause-made : goal.returns-clause-made
returns-clause-made c =
    let a = c.args.self.now in
    made_and_passed a c.refill_after.new.self c.spread.new.self c.args.event
    (made_and_passed a c.act.new.self c.refill_after.new.self c.args.event c.in_ok-act.ensures.acts.made
    c.refill_after.ensures.passes) c.spread.ensures.passes

pub returns-clause-spread : goal.returns-clause-spread
returns-clause-spread c =
    c.in_ok-spread.ensures.spread
    (subst (λ k. IsSpreadBut c.refill_after.new.self k) (sym c.node_of-node.ensures)
    (refilled_but c.args.self.now c.act.new.self c.refill_after.new.self c.args.event c.requires.spread
    c.in_ok-act.ensures.acts c.refill_after.ensures))
