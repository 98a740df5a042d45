use Rattle.std.proofs.Common.{◌≡◌, map}
use Rattle.node_meaning.specs.Nodes.{Shown}
use Rattle.still_nodes.proofs.gathering.logs_of.Given as goal

abbrev pub invariant-loop-node : goal.invariant-loop-node
invariant-loop-node l = l.logs.items ≡ map (λ (n : Shown). n.log) l.yielded
