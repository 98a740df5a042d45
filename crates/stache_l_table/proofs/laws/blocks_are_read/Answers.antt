use Rattle.stache_l_table.proofs.Told.{blocks_are_read}
use Rattle.stache_l_table.proofs.laws.blocks_are_read.Goals as goal

pub returns : goal.returns
returns c = blocks_are_read
