use Rattle.compiled_meaning.proofs.Entering.{meant}
use Rattle.compiled_meaning.proofs.laws.code_does_what_is_meant.Goals as goal

pub returns : goal.returns
returns c = meant
