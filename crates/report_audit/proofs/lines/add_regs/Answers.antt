use Rattle.report_audit.specs.Lines.{register_due}
use Rattle.report_audit.proofs.Growing.{grown}
use Rattle.report_audit.proofs.lines.add_regs.Goals as goal

pub loop-register-preserved : goal.loop-register-preserved
loop-register-preserved c =
    grown (register_due c.args.node) c.args.due.now c.loop-register.due c.add_register.new.due c.args.regs.now
    c.loop-register.register _ c.loop-register-test.true c.loop-register.invariant
    c.in_ok-add_register.ensures
