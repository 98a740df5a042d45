use Rattle.compiled_meaning.proofs.Steps.{simulation}
use Rattle.compiled_meaning.proofs.laws.simulates.Goals as goal

pub returns : goal.returns
returns c = simulation
