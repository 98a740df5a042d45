use Rattle.note_reads.specs.Deferring.{kept_to}
use Rattle.note_reads.specs.Notes.{IsSummary}
use Rattle.note_reads.proofs.deferred.kept_of.Given as goal

abbrev pub invariant-loop-at : goal.invariant-loop-at
invariant-loop-at l = IsSummary l.count l.words l.summary (kept_to l.block l.node l.at l.deferred)
