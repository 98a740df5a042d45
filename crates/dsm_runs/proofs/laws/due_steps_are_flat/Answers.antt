use Rattle.dsm_runs.proofs.FlatBeside.{beside_start, due_steps_are_flat}
use Rattle.dsm_runs.proofs.laws.due_steps_are_flat.Goals as goal

pub returns : goal.returns
returns c = record { start = beside_start; step = due_steps_are_flat }
