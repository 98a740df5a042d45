use Rattle.std.proofs.Common.{◌≡◌}
use Rattle.tempest_input.specs.Settings.{each_below, program_for}
use Rattle.tempest_input.proofs.setup.programs_by_node.Given as goal

abbrev pub invariant-loop-node : goal.invariant-loop-node
invariant-loop-node l = l.by_node.items ≡ each_below (program_for l.nodes l.programs) l.node
