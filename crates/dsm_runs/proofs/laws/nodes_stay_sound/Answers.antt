use Rattle.dsm_runs.proofs.RunStates.{events_keep, logs_keep, nodes_start}
use Rattle.dsm_runs.proofs.laws.nodes_stay_sound.Goals as goal

pub returns : goal.returns
returns c = record { start = nodes_start; events = events_keep; logs = logs_keep }
