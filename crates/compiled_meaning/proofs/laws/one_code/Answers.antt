use Rattle.compiled_meaning.proofs.OneCode.{one_code}
use Rattle.compiled_meaning.proofs.laws.one_code.Goals as goal

pub returns : goal.returns
returns c = one_code
