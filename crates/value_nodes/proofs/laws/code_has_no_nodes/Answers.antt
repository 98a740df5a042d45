use Rattle.value_nodes.proofs.Constants.{code_has_no_nodes}
use Rattle.value_nodes.proofs.laws.code_has_no_nodes.Goals as goal

pub returns : goal.returns
returns c = code_has_no_nodes
