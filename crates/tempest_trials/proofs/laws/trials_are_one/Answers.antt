use Rattle.tempest_trials.proofs.NoMemory.{trials_no_memory}
use Rattle.tempest_trials.proofs.Ones.{trials_one}
use Rattle.tempest_trials.proofs.laws.trials_are_one.Goals as goal

pub returns : goal.returns
returns c = record { one = trials_one c.replays_have_one_end.ensures; no_memory = trials_no_memory }
