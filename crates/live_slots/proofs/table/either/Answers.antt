use Rattle.live_slots.proofs.Bits.{has_bit-or}
use Rattle.live_slots.proofs.table.either.Goals as goal

pub returns : goal.returns
returns c = λ k. has_bit-or c.args.a c.args.b k
