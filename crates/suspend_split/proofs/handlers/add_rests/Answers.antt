use Rattle.suspend_split.proofs.Entries.{rests_grown}
use Rattle.suspend_split.proofs.handlers.add_rests.Goals as goal

pub loop-i-preserved : goal.loop-i-preserved
loop-i-preserved c =
    rests_grown c.args.rests.now c.loop-i.rests c.add_rest.new.rests c.args.door c.args.at _ c.args.ops.now c.loop-i.i
    c.index-ops-i.result
    c.loop-i-test.true c.index-ops-i.is c.in_ok-sum.ensures c.loop-i.invariant c.in_ok-add_rest.ensures
