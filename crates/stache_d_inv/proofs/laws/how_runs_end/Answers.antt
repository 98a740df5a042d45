use Rattle.stache_d_inv.proofs.Done.{quiet_runs_are_done}
use Rattle.stache_d_inv.proofs.Followed.{faults_are_followed}
use Rattle.stache_d_inv.proofs.laws.how_runs_end.Goals as goal

pub returns : goal.returns
returns c = record { quiet = quiet_runs_are_done; followed = faults_are_followed }
