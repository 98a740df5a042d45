use Rattle.blizzard_guard.proofs.Finishing.{starts, starts_plain}
use Rattle.blizzard_guard.proofs.processor.Processor.new.Goals as goal

pub invariant_of-result : goal.invariant_of-result
invariant_of-result c = starts c.args.program.now c.in_ok-guard.field-0 c.new.result c.instrs-instrs.ensures.valid
    c.in_ok-guard.ensures c.new.ensures

pub returns : goal.returns
returns c = starts_plain c.args.program.now c.in_ok-guard.field-0 c.new.result c.instrs-instrs.ensures.valid
    c.in_ok-guard.ensures c.new.ensures
