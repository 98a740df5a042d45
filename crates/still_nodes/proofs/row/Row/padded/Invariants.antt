use Rattle.std.proofs.Common.{◌≡◌, ◌++◌, [], replicate}
use Rattle.still_nodes.proofs.row.Row.padded.Given as goal

abbrev pub invariant-loop : goal.invariant-loop
invariant-loop l = l.queues.items ≡ l.initial.queues.items ++ replicate l.counter []
