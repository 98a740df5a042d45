use Rattle.std.proofs.Common.{◌≡◌, ℕ, ◌<◌, true, length}
use Rattle.tw_base.specs.NodeSets.{has}
use Rattle.node_fits.proofs.arguments.members_are_within.Given as goal

abbrev pub invariant-loop-k : goal.invariant-loop-k
invariant-loop-k l = record {
  below : (j : ℕ) → j < l.k → has l.set j ≡ true → j < l.nodes;
  eight : 0 < l.k → length l.set ≡ 8;
}
