use Rattle.compiled_rules.proofs.Keeping.{keeps}
use Rattle.compiled_rules.proofs.laws.code_keeps_the_rules.Goals as goal

pub returns : goal.returns
returns c = keeps
