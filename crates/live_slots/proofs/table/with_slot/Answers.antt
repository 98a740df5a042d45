use Rattle.std.proofs.Common.{arith}
use Rattle.live_slots.proofs.Bits.{with_high, with_low}
use Rattle.live_slots.proofs.table.with_slot.Goals as goal

pub returns-then-slot-lt32 : goal.returns-then-slot-lt32
returns-then-slot-lt32 c = λ k. with_low c.args.slots c.args.slot k (omega arith)

pub returns-else-slot-lt32 : goal.returns-else-slot-lt32
returns-else-slot-lt32 c = λ k. with_high c.args.slots c.args.slot k (omega arith)
