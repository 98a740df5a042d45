use Rattle.tw_wire_tests.specs.Tied.{AreTied}
use Rattle.tw_wire_tests.proofs.rounds.take_some.Given as goal

abbrev pub invariant-loop-k : goal.invariant-loop-k
invariant-loop-k g l = AreTied l.wires l.ends.items
