use Rattle.note_reads.specs.Notes.{IsSummary}
use Rattle.dsm_model.specs.Globals.{world_of}
use Rattle.coherence_check.specs.Said.{said_to}
use Rattle.coherence_check.proofs.wire.said.Given as goal

abbrev pub invariant-loop-k : goal.invariant-loop-k
invariant-loop-k l = IsSummary l.count l.at_home l.summary (said_to l.block l.k ((world_of l.g).wires l.from l.to l.chan))
