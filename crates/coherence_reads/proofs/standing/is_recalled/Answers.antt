use Rattle.std.proofs.Common.{subst, sym}
use Rattle.std.specs.Bool.{Decides}
use Rattle.block_spots.specs.Notes.{gets_rw}
use Rattle.stache_d_inv.specs.Coherent.{Recalled}
use Rattle.block_reads.specs.declared.whose.Whose.{Whose}
use Rattle.block_reads.specs.Whose.{rest_in}
use Rattle.coherence_reads.proofs.standing.is_recalled.Goals as goal

pub returns-in-NoRest : goal.returns-in-NoRest
returns-in-NoRest c =
    λ s ro wr h. subst (λ (z : Whose). Decides c.returns_all.result
    (Recalled (rest_in z) s.state ro wr (gets_rw s) s.down s.up)) (sym c.in-NoRest.is) (c.returns_all.ensures s ro wr h)

pub returns-in-OfHome : goal.returns-in-OfHome
returns-in-OfHome c =
    λ s ro wr h. subst (λ (z : Whose). Decides c.returns_all-in-OfHome.result
    (Recalled (rest_in z) s.state ro wr (gets_rw s) s.down s.up)) (sym c.in-OfHome.is)
    (c.returns_all-in-OfHome.ensures s ro wr h)

pub returns-in-OfRw : goal.returns-in-OfRw
returns-in-OfRw c =
    λ s ro wr h. subst (λ (z : Whose). Decides c.returns_all-in-OfRw.result
    (Recalled (rest_in z) s.state ro wr (gets_rw s) s.down s.up)) (sym c.in-OfRw.is) (c.returns_all-in-OfRw.ensures s ro wr h)

pub returns-in-OfCache : goal.returns-in-OfCache
returns-in-OfCache c =
    λ s ro wr h. subst (λ (z : Whose). Decides c.returns_all-in-OfCache.result
    (Recalled (rest_in z) s.state ro wr (gets_rw s) s.down s.up)) (sym c.in-OfCache.is)
    (c.returns_all-in-OfCache.ensures s ro wr h)
