use Rattle.coherence_check.proofs.Deciding.{implies_so, waits_so}
use Rattle.coherence_check.proofs.waits.own_read.Goals as goal

pub returns : goal.returns
returns c =
    λ h i b l k. implies_so _ _ _ _ _ k.own (waits_so _ _ _ _ _ _ _
    (c.is_some.ensures _ k.rd_fault) k.blocked k.loads c.waits.ensures) c.implies.ensures
