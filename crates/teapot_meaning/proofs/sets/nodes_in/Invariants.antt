use Rattle.std.proofs.Common.{◌≡◌, take}
use Rattle.tw_base.specs.NodeSets.{members_from}
use Rattle.teapot_meaning.proofs.sets.nodes_in.Given as goal

abbrev pub invariant-loop-k : goal.invariant-loop-k
invariant-loop-k l = l.nodes ≡ members_from 0 (take l.k l.set)
