use Rattle.tempest_run.proofs.Calling.{words_starved}
use Rattle.tempest_run.proofs.top.tempest.Goals as goal

pub returns-in-Err : goal.returns-in-Err
returns-in-Err g c = words_starved _ _ _
