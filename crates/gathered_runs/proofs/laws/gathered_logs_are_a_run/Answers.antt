use Rattle.gathered_runs.proofs.Gathering.{are_a_run, are_logs}
use Rattle.gathered_runs.proofs.laws.gathered_logs_are_a_run.Goals as goal

pub returns : goal.returns
returns c = record { logs = are_logs; run = are_a_run }
