use Rattle.std.proofs.Common.{◌≡◌, length}
use Rattle.still_nodes.specs.Beginning.{AreFirst}
use Rattle.still_nodes.proofs.still.first_nodes.Given as goal

abbrev pub invariant-loop-number : goal.invariant-loop-number
invariant-loop-number l = (length l.nodes.items ≡ l.number) × AreFirst l.setup l.code l.nodes.items
