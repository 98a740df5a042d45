use Rattle.note_reads.proofs.Lists.{both_so}
use Rattle.coherence_reads.proofs.fits.own_requests.Goals as goal

pub returns : goal.returns
returns c =
    λ w ws s h. both_so _ _ _ _ _ (c.is_at_most_one.ensures _
    (c.plus.ensures _ _ (c.plus-faults.ensures _ _ h.kept.rd_fault h.kept.wr_fault) c.held_home.ensures))
    (c.is_none_if_whole.ensures _ h.kept.few) c.both.ensures
