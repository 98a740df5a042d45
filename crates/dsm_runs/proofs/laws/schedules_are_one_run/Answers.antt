use Rattle.dsm_runs.proofs.Scheduling.{settles_one, settles_quiet, settles_runs}
use Rattle.dsm_runs.proofs.laws.schedules_are_one_run.Goals as goal

pub returns : goal.returns
returns c = record { run = settles_runs; quiet = settles_quiet; one = settles_one }
