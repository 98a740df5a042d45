use Rattle.suspend_split.proofs.Entries.{entries_grown}
use Rattle.suspend_split.proofs.handlers.add_states.Goals as goal

pub loop-number-preserved : goal.loop-number-preserved
loop-number-preserved c =
    entries_grown c.args.w.now.protocol.now c.args.code.now c.loop-number.code c.add_handlers.new.code c.args.states.now
    c.loop-number.number c.index-states-number.result
    c.loop-number-test.true c.index-states-number.is c.loop-number.invariant c.in_ok-add_handlers.ensures
