use Rattle.std.proofs.Common.{◌≡◌, ◌++◌, take}
use Rattle.std.specs.List.{flat_map, enumerate_from}
use Rattle.sample_runs.specs.Summaries.{summary_node}
use Rattle.sample_runs.proofs.text.add_nodes.Given as goal

abbrev pub invariant-loop-node : goal.invariant-loop-node
invariant-loop-node l = l.out ≡ l.initial.out ++ flat_map (summary_node l.names.protocol.now l.journal)
    (enumerate_from 0 (take l.node l.finals))
