use Rattle.value_nodes.proofs.Running.{runs_stay_within}
use Rattle.value_nodes.proofs.laws.runs_stay_within.Goals as goal

pub returns : goal.returns
returns c = runs_stay_within
