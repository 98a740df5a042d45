use Rattle.std.proofs.Common.{take}
use Rattle.value_nodes.specs.Within.{AreWithin}
use Rattle.node_fits.proofs.arguments.are_within.Given as goal

abbrev pub invariant-loop-value : goal.invariant-loop-value
invariant-loop-value l = AreWithin l.nodes (take l.value-index l.values)
