use Rattle.coherence_frame.proofs.Done.{quiet_runs_are_done}
use Rattle.coherence_frame.proofs.Followed.{faults_are_followed}
use Rattle.stache_l_inv.proofs.Scheme.{scheme}
use Rattle.stache_l_inv.proofs.laws.how_runs_end.Goals as goal

pub returns : goal.returns
returns c = record { quiet = quiet_runs_are_done scheme; followed = faults_are_followed scheme }
