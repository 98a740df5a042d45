-- What nodes may read at the end.
use Rattle.coherence_frame.proofs.Readers as frame
use Rattle.coherence_inv.specs.Laws.{BlocksHaveReaders, CopiesAreCurrent}
use Rattle.coherence_inv.proofs.Scheme.{scheme}

pub copies_are_current : CopiesAreCurrent
copies_are_current = frame.copies_are_current scheme

pub blocks_have_readers : BlocksHaveReaders
blocks_have_readers = frame.blocks_have_readers scheme
