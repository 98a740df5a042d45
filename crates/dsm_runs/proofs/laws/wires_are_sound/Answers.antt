use Rattle.dsm_runs.proofs.OnWires.{wires_sound}
use Rattle.dsm_runs.proofs.laws.wires_are_sound.Goals as goal

pub returns : goal.returns
returns c = wires_sound
