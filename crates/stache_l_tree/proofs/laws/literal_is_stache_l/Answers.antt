use Rattle.stache_l_tree.proofs.Bares.{literal}
use Rattle.stache_l_tree.proofs.laws.literal_is_stache_l.Goals as goal

pub returns : goal.returns
returns c = literal
