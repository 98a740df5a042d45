use Rattle.dsm_runs.specs.Replays.{begin}
use Rattle.dsm_runs.proofs.GoingOn.{log_goes_on}
use Rattle.dsm_runs.proofs.laws.logs_go_on.Goals as goal

pub returns : goal.returns
returns c = λ s i log a b e r q. log_goes_on s i log (begin s i) a b e r q
