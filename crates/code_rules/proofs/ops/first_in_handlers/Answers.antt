use Rattle.std.proofs.Common.{◌+◌, arith, subst, sym}
use Rattle.code_walks.specs.Least.{IsLeast}
use Rattle.code_rules.specs.Tests.{BreaksAt}
use Rattle.code_rules.proofs.Doorways.{OpBefore, op_all, op_next}
use Rattle.code_rules.proofs.ops.first_in_handlers.Goals as goal

pub loop-number-preserved : goal.loop-number-preserved
loop-number-preserved c =
    let code = c.args.code.now in
    subst (λ o. IsLeast (OpBefore code (BreaksAt c.args.p.now code c.args.rule) (c.loop-number.number + 1)) o)
    (sym c.lesser-least.ensures)
    (op_next code (BreaksAt c.args.p.now code c.args.rule) c.loop-number.number c.part_at-part.result c.loop-number.least
    c.in_ok-first_in.field-0
    c.part_at-part.ensures.door c.part_at-part.ensures.end c.loop-number.invariant c.in_ok-first_in.ensures)

pub returns : goal.returns
returns c = op_all c.args.code.now (BreaksAt c.args.p.now c.args.code.now c.args.rule) c.loop-number.number c.loop-number.least
    (omega (arith, c.len-number-end.ensures)) c.loop-number.invariant
