use Rattle.std.proofs.Common.{ℕ, ◌<◌, ◌≢◌}
use Rattle.dsm_model.specs.Globals.{setup_of, world_of}
use Rattle.dsm_runs.specs.Setups.{home_of}
use Rattle.coherence_reads.specs.Seeing.{which}
use Rattle.coherence_check.specs.Nodes.{CacheAt}
use Rattle.coherence_check.proofs.each.caches_fit.Given as goal

abbrev pub invariant-loop-number : goal.invariant-loop-number
invariant-loop-number l = (i : ℕ) → i < l.number → i ≢ home_of (setup_of l.g) l.block →
    CacheAt l.directory (which l.part) (setup_of l.g) (world_of l.g) l.block i
