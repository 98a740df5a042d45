use Rattle.stache_d_tree.proofs.Bares.{literal}
use Rattle.stache_d_tree.proofs.laws.literal_is_stache_d.Goals as goal

pub returns : goal.returns
returns c = literal
