use Rattle.std.proofs.Common.{◌≡◌, subst}
use Rattle.std.specs.Bool.{Decides}
use Rattle.block_spots.specs.Cases.{CacheWaitRo, State}
use Rattle.coherence_check.proofs.Deciding.{implies_so, not_so, waits_so}
use Rattle.coherence_check.proofs.waits.waits_ro.Goals as goal

pub returns : goal.returns
returns c = λ h i b l k.
    let at : Decides c.is_wait_ro.result ((l.blocks b).state ≡ CacheWaitRo) =
    subst (λ (s : State). Decides c.is_wait_ro.result (s ≡ CacheWaitRo)) k.state c.is_wait_ro.ensures in
    implies_so _ _ _ _ _ (not_so _ _ k.own) (waits_so _ _ _ _ _ _ _ at k.blocked k.loads c.waits.ensures) c.implies.ensures
