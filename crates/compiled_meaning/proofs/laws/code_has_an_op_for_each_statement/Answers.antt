use Rattle.compiled_meaning.proofs.Counted.{held}
use Rattle.compiled_meaning.proofs.laws.code_has_an_op_for_each_statement.Goals as goal

pub returns : goal.returns
returns c = held
