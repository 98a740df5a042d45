use Rattle.dsm_runs.proofs.Orders.{merged_is_merge, same_merge}
use Rattle.dsm_runs.proofs.laws.logs_have_one_merge.Goals as goal

pub returns : goal.returns
returns c = record { some = merged_is_merge; one = same_merge }
