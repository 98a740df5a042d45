use Rattle.coherence_frame.proofs.Readers.{blocks_have_readers, copies_are_current}
use Rattle.stache_l_inv.proofs.Scheme.{scheme}
use Rattle.stache_l_inv.proofs.laws.what_nodes_may_read.Goals as goal

pub returns : goal.returns
returns c = record { current = copies_are_current scheme; readers = blocks_have_readers scheme }
