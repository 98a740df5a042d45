use Rattle.std.proofs.Common.{subst, sym}
use Rattle.std.specs.Bool.{Decides}
use Rattle.block_spots.specs.Cases.{Rest}
use Rattle.block_spots.specs.Notes.{gets_rw}
use Rattle.stache_d_inv.specs.Coherent.{Recalled}
use Rattle.note_reads.proofs.Lists.{both_so}
use Rattle.coherence_reads.proofs.standing.stands_recalled.Goals as goal

pub returns : goal.returns
returns c = λ h i s ro wr seen has.
    let at : Decides c.is_recalled.result (Recalled h.rest s.state ro wr (gets_rw s) s.down s.up) =
    subst (λ (r : Rest). Decides c.is_recalled.result (Recalled r s.state ro wr (gets_rw s) s.down s.up)) (sym has.rest)
    (c.is_recalled.ensures s ro wr seen) in
    both_so _ _ _ _ _ at (c.is_zero.ensures _ (c.plus.ensures _ _ has.reads has.writes)) c.both.ensures
