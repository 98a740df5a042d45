use Rattle.dsm_runs.proofs.Enabling.{enabled_step}
use Rattle.dsm_runs.proofs.laws.enabled_events_step.Goals as goal

pub returns : goal.returns
returns c = enabled_step
