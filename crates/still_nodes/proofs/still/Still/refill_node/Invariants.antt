use Rattle.still_nodes.proofs.Spreading.{FilledFrom}
use Rattle.still_nodes.proofs.still.Still.refill_node.Given as goal

abbrev pub invariant-loop-number : goal.invariant-loop-number
invariant-loop-number l = FilledFrom l.initial.self l.self l.to l.number
