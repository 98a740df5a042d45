use Rattle.stache_rules.proofs.Accepted.{accepted}
use Rattle.stache_rules.proofs.laws.stache_is_accepted.Goals as goal

pub returns : goal.returns
returns c = accepted
