use Rattle.still_nodes.proofs.Spreading.{SpreadBelow}
use Rattle.still_nodes.proofs.still.Still.spread_all.Given as goal

abbrev pub invariant-loop-number : goal.invariant-loop-number
invariant-loop-number l = SpreadBelow l.initial.self l.self l.number
