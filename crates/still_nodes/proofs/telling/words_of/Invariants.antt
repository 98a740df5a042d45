use Rattle.still_nodes.specs.Telling.{AreWordsOf}
use Rattle.still_nodes.proofs.telling.words_of.Given as goal

abbrev pub invariant-loop-node : goal.invariant-loop-node
invariant-loop-node l = AreWordsOf l.nodes l.words.items l.node-index
