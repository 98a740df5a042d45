use Rattle.still_nodes.proofs.Spreading.{FilledTo}
use Rattle.still_nodes.proofs.still.Still.refill_all.Given as goal

abbrev pub invariant-loop-number : goal.invariant-loop-number
invariant-loop-number l = FilledTo l.initial.self l.self l.number
