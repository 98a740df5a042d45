use Rattle.answers_on_trial.proofs.Standing.{on_threads}
use Rattle.answers_on_trial.proofs.laws.thread_answers_stand_trial.Goals as goal

pub returns : goal.returns
returns c = on_threads c.reports_stand_trial.ensures
