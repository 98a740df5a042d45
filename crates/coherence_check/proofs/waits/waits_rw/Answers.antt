use Rattle.std.proofs.Common.{◌≡◌, subst}
use Rattle.std.specs.Bool.{Decides}
use Rattle.block_spots.specs.Cases.{CacheWaitRw, State}
use Rattle.coherence_check.proofs.Deciding.{implies_so, not_so, waits_so}
use Rattle.coherence_check.proofs.waits.waits_rw.Goals as goal

pub returns : goal.returns
returns c = λ h i b l k.
    let at : Decides c.is_wait_rw.result ((l.blocks b).state ≡ CacheWaitRw) =
    subst (λ (s : State). Decides c.is_wait_rw.result (s ≡ CacheWaitRw)) k.state c.is_wait_rw.ensures in
    implies_so _ _ _ _ _ (not_so _ _ k.own) (waits_so _ _ _ _ _ _ _ at k.blocked k.stores c.waits.ensures) c.implies.ensures
