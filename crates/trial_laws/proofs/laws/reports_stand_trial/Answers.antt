use Rattle.trial_laws.proofs.Trials.{stand}
use Rattle.trial_laws.proofs.laws.reports_stand_trial.Goals as goal

pub returns : goal.returns
returns c =
    stand c.reports_of_runs_are_read_back.ensures c.read_reports_say_all.ensures c.printed_runs_are_replayed.ensures
    c.replays_have_one_end.ensures c.reports_of_one_memory_are_explained.ensures
