use Rattle.stache_d_inv.proofs.Readers.{blocks_have_readers, copies_are_current}
use Rattle.stache_d_inv.proofs.laws.what_nodes_may_read.Goals as goal

pub returns : goal.returns
returns c = record { current = copies_are_current; readers = blocks_have_readers }
