-- How a run under Stache_D ends.
use Rattle.coherence_frame.specs.Ends as frame
pub use Rattle.coherence_frame.specs.Ends.{IsDone, IsDoneAccess, NoInstruction, Unspent}
use Rattle.stache_d_inv.specs.Parts.{wording}

abbrev pub QuietRunsAreDone : Type 0
QuietRunsAreDone = frame.QuietRunsAreDone wording

abbrev pub NoBudgetIsSpent : Type 0
NoBudgetIsSpent = frame.NoBudgetIsSpent wording

-- After a fault of a node, its next instruction event is the access that it could not make.
abbrev pub FaultsAreFollowed : Type 0
FaultsAreFollowed = frame.FaultsAreFollowed wording
