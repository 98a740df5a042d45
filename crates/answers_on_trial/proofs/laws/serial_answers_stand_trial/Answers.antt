use Rattle.answers_on_trial.proofs.Standing.{serial}
use Rattle.answers_on_trial.proofs.laws.serial_answers_stand_trial.Goals as goal

pub returns : goal.returns
returns c = serial c.reports_stand_trial.ensures
