use Rattle.compiled_rules.proofs.Rooming.{needs_little}
use Rattle.compiled_rules.proofs.laws.code_needs_little.Goals as goal

pub returns : goal.returns
returns c = needs_little
