use Rattle.std.proofs.Common.{ℕ, ◌<◌}
use Rattle.dsm_model.specs.Globals.{setup_of, world_of}
use Rattle.coherence_check.specs.Under.{InPartsUnder}
use Rattle.coherence_check.proofs.decide.decide.Given as goal

abbrev pub invariant-loop-number : goal.invariant-loop-number
invariant-loop-number l = (b : ℕ) → b < l.number → InPartsUnder l.directory (setup_of l.g) (world_of l.g) b
