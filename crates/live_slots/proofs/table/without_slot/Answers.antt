use Rattle.std.proofs.Common.{arith}
use Rattle.live_slots.proofs.Bits.{has_bit-clear, has_bit-far}
use Rattle.live_slots.proofs.table.without_slot.Goals as goal

pub returns-then-slot-lt32 : goal.returns-then-slot-lt32
returns-then-slot-lt32 c = λ k. has_bit-clear c.args.slots c.args.slot k (omega arith) (omega arith)

pub returns-else-slot-lt32 : goal.returns-else-slot-lt32
returns-else-slot-lt32 c = λ k. has_bit-far c.args.slots c.args.slot k (omega arith) (omega arith)
