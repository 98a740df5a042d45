use Rattle.std.proofs.Common.{length}
use Rattle.node_seats.specs.Turns.{HasPushed}
use Rattle.node_seats.proofs.seat.Seat.flush.Given as goal

abbrev pub invariant-out : goal.invariant-out
invariant-out g l = HasPushed l.initial.self l.self

abbrev pub decreases-out : goal.decreases-out
decreases-out g l = length l.self.node.waiting
