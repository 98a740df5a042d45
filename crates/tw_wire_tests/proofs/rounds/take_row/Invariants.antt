use Rattle.tw_wire_tests.specs.Tied.{AreTied}
use Rattle.tw_wire_tests.proofs.rounds.take_row.Given as goal

abbrev pub invariant-loop-number : goal.invariant-loop-number
invariant-loop-number g l = AreTied l.wires l.ends.items
