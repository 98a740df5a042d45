use Rattle.std.proofs.Common.{◌≡◌}
use Rattle.journal.specs.Merging.{first_of, stamps_of}
use Rattle.journal.proofs.merging.first_node.Given as goal

abbrev pub invariant-loop-node : goal.invariant-loop-node
invariant-loop-node l = l.first ≡ first_of l.node (stamps_of l.logs l.places)
