use Rattle.node_seats.specs.Steps.{AreNotLower}
use Rattle.node_seats.specs.Turns.{Grows, is_handling}
use Rattle.node_seats.proofs.seat.Seat.serve.Given as goal

abbrev pub invariant-loop-done : goal.invariant-loop-done
invariant-loop-done g l = record {
  grows : Grows is_handling l.fn.self.node.log l.self.node.log l.done;
  looks : AreNotLower l.fn.self l.self;
}
