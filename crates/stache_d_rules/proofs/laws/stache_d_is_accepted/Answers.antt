use Rattle.stache_d_rules.proofs.Accepted.{accepted}
use Rattle.stache_d_rules.proofs.laws.stache_d_is_accepted.Goals as goal

pub returns : goal.returns
returns c = accepted
