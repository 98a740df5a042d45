use Rattle.code_rules.proofs.Safely.{safe}
use Rattle.code_rules.proofs.laws.verified_code_is_safe.Goals as goal

pub returns : goal.returns
returns c = λ p code k. safe p code k
