use Rattle.std.proofs.Common.{◌≡◌, [], drop}
use Rattle.tempest_input.specs.Numbers.{gathered, node_in}
use Rattle.tempest_input.proofs.numbers.nodes_of.Given as goal

abbrev pub invariant-loop-section : goal.invariant-loop-section
invariant-loop-section l = gathered (node_in l.nodes) l.done.items (drop l.section-index l.sections)
    ≡ gathered (node_in l.nodes) [] l.sections
