use Rattle.std.proofs.Common.{◌≡◌, length}
use Rattle.journal.proofs.Walking.{GoesOn, left_in}
use Rattle.journal.proofs.merging.merge.Given as goal

abbrev pub invariant-entries : goal.invariant-entries
invariant-entries l = (length l.places.items ≡ length l.logs) × GoesOn l.logs l.places.items l.journal

abbrev pub decreases-entries : goal.decreases-entries
decreases-entries l = left_in l.logs l.places.items
