use Rattle.stache_l_rules.proofs.Accepted.{accepted}
use Rattle.stache_l_rules.proofs.laws.stache_l_is_accepted.Goals as goal

pub returns : goal.returns
returns c = accepted
