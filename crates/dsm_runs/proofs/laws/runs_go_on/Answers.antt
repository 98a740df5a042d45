use Rattle.dsm_runs.specs.Worlds.{start}
use Rattle.dsm_runs.proofs.GoingOn.{run_goes_on}
use Rattle.dsm_runs.proofs.laws.runs_go_on.Goals as goal

pub returns : goal.returns
returns c = λ s first second g h r q. run_goes_on s first second (start s) g h r q
