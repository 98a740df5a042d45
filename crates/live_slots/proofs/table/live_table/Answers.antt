use Rattle.live_slots.proofs.Exact.{exact}
use Rattle.live_slots.proofs.table.live_table.Goals as goal

pub returns-then-not-sweep : goal.returns-then-not-sweep
returns-then-not-sweep c =
    exact c.args.ops.now c.sweep.new.table (c.sweep.ensures.closed c.if-not-sweep.true)
    (c.sweep.ensures.justified c.loop.invariant.1)
