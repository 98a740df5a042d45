use Rattle.std.proofs.Common.{◌≡◌, [], take}
use Rattle.tw_base.specs.NodeSets.{members_from}
use Rattle.teapot_meaning.proofs.sets.least_of.Given as goal

abbrev pub invariant-loop-k : goal.invariant-loop-k
invariant-loop-k l = members_from 0 (take l.k l.set) ≡ []
