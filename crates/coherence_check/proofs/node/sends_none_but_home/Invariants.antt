use Rattle.std.proofs.Common.{ℕ, ◌<◌, ◌≢◌}
use Rattle.dsm_model.specs.Globals.{setup_of, world_of}
use Rattle.dsm_runs.specs.Setups.{home_of}
use Rattle.coherence_check.specs.Nodes.{SendsNone}
use Rattle.coherence_check.proofs.node.sends_none_but_home.Given as goal

abbrev pub invariant-loop-number : goal.invariant-loop-number
invariant-loop-number l = (i : ℕ) → i < l.number → i ≢ home_of (setup_of l.g) l.block →
    SendsNone (setup_of l.g) (world_of l.g) l.block l.from i
