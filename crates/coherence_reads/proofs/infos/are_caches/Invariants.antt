use Rattle.std.proofs.Common.{ℕ, ◌≡◌, ◌<◌, true}
use Rattle.tw_base.specs.NodeSets.{has}
use Rattle.coherence_inv.specs.Coherent.{IsCacheNode}
use Rattle.coherence_reads.proofs.infos.are_caches.Given as goal

abbrev pub invariant-loop-number : goal.invariant-loop-number
invariant-loop-number l = (k : ℕ) → k < l.number → has l.set k ≡ true → IsCacheNode l.nodes l.home k
