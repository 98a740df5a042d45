use Rattle.code_rules.proofs.Depthly.{depths}
use Rattle.code_rules.proofs.laws.verified_code_has_depths.Goals as goal

pub returns : goal.returns
returns c = λ p code k. depths p code k
