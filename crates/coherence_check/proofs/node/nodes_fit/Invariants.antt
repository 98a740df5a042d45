use Rattle.std.proofs.Common.{ℕ, ◌<◌}
use Rattle.dsm_model.specs.Globals.{setup_of, world_of}
use Rattle.coherence_reads.specs.Seeing.{which}
use Rattle.coherence_check.specs.Nodes.{NodeAt}
use Rattle.coherence_check.proofs.node.nodes_fit.Given as goal

abbrev pub invariant-loop-number : goal.invariant-loop-number
invariant-loop-number l = (i : ℕ) → i < l.number → NodeAt l.directory (which l.part) (setup_of l.g) (world_of l.g) l.block i
