use Rattle.dsm_runs.proofs.Shape.{merged_run}
use Rattle.dsm_runs.proofs.laws.merged_logs_are_a_run.Goals as goal

pub returns : goal.returns
returns c = merged_run
