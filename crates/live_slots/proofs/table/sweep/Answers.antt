use Rattle.std.proofs.Common.{arith}
use Rattle.live_slots.proofs.Exact.{closed_more}
use Rattle.live_slots.proofs.table.sweep.Goals as goal

pub places-preserved : goal.places-preserved
places-preserved c = (
  omega arith,
  c.improve-here.ensures.len,
  λ j. c.improve-here.ensures.justified (c.places.invariant.2 j),
  λ e. closed_more c.args.ops.now c.places.table c.improve-here.new.table c.places.at (c.improve-here.ensures.same e)
      (c.improve-here.ensures.closed e) (c.places.invariant.3 c.if-changed.false),
)
