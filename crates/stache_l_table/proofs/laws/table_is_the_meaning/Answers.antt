use Rattle.stache_l_table.proofs.Shipped.{table_is_the_meaning}
use Rattle.stache_l_table.proofs.laws.table_is_the_meaning.Goals as goal

pub returns : goal.returns
returns c = table_is_the_meaning
