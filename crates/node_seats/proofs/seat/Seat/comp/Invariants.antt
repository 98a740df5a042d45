use Rattle.node_seats.specs.Turns.{Grows, is_instruction}
use Rattle.node_seats.proofs.seat.Seat.comp.Given as goal

abbrev pub invariant-loop-done : goal.invariant-loop-done
invariant-loop-done g l = Grows is_instruction l.fn.self.node.log l.self.node.log l.done
