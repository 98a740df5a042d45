use Rattle.dsm_runs.proofs.OneEnd.{step_world}
use Rattle.dsm_runs.proofs.OneEntry.{step_enabled, step_entry}
use Rattle.dsm_runs.proofs.laws.events_have_one_step.Goals as goal

pub returns : goal.returns
returns c = record { enabled = step_enabled; entry = step_entry; state = step_world }
