use Rattle.compiled_meaning.proofs.Entering.{meant_soon}
use Rattle.compiled_meaning.proofs.laws.code_takes_few_ops.Goals as goal

pub returns : goal.returns
returns c = λ p code. meant_soon p code (c.stops_once.ensures p code)
