use Rattle.std.proofs.Common.{◌≡◌, [], replicate}
use Rattle.still_nodes.proofs.row.Row.new.Given as goal

abbrev pub invariant-loop-made : goal.invariant-loop-made
invariant-loop-made l = l.queues.items ≡ replicate l.made []
