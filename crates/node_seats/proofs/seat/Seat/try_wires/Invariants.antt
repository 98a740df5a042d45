use Rattle.std.proofs.Common.{◌≡◌, true}
use Rattle.node_seats.specs.Steps.{HasTried}
use Rattle.node_seats.specs.Turns.{takes_messages}
use Rattle.node_seats.proofs.seat.Seat.try_wires.Given as goal

abbrev pub invariant-loop-at : goal.invariant-loop-at
invariant-loop-at g l = record {
  tried : HasTried l.fn.self l.self l.low l.at;
  takes : takes_messages l.self.node ≡ true;
  ready : l.self.node.ready ≡ true;
}
