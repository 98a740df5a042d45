-- A run that has come to rest is done, and has spent no budget.
use Rattle.coherence_frame.proofs.Done as frame
use Rattle.coherence_inv.specs.Ends.{NoBudgetIsSpent, QuietRunsAreDone}
use Rattle.coherence_inv.proofs.Scheme.{scheme}

pub no_budget_is_spent : NoBudgetIsSpent
no_budget_is_spent = frame.no_budget_is_spent scheme

pub quiet_runs_are_done : QuietRunsAreDone
quiet_runs_are_done = frame.quiet_runs_are_done scheme
