use Rattle.std.proofs.Common.{◌≡◌, map}
use Rattle.std.specs.List.{range_with_len}
use Rattle.journal.proofs.finals.finals_of.Given as goal

abbrev pub invariant-loop-number : goal.invariant-loop-number
invariant-loop-number g l = l.finals ≡ map (g.N.Nodes.ended l.nodes) (range_with_len 0 l.number)
