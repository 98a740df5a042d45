use Rattle.std.proofs.Common.{◌≡◌, ◌++◌, take}
use Rattle.std.specs.List.{flat_map, enumerate_from}
use Rattle.journal.specs.Reports.{node_line}
use Rattle.journal.proofs.node_lines.add_nodes.Given as goal

abbrev pub invariant-loop-node : goal.invariant-loop-node
invariant-loop-node l = l.out ≡ l.initial.out ++ flat_map (node_line l.names.protocol.now)
    (enumerate_from 0 (take l.node l.finals))
