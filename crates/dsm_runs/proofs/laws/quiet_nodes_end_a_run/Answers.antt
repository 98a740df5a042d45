use Rattle.dsm_runs.proofs.Quiet.{quiet_there}
use Rattle.dsm_runs.proofs.laws.quiet_nodes_end_a_run.Goals as goal

pub returns : goal.returns
returns c = quiet_there
