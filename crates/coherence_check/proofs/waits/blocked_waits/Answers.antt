use Rattle.std.proofs.Common.{subst}
use Rattle.std.specs.Bool.{Decides}
use Rattle.block_spots.specs.Cases.{State}
use Rattle.coherence_inv.specs.Coherent.{IsWaiting}
use Rattle.coherence_check.proofs.Deciding.{implies_so, not_so}
use Rattle.coherence_check.proofs.waits.blocked_waits.Goals as goal

pub returns : goal.returns
returns c = λ h i b l k.
    let at : Decides c.is_waiting.result (IsWaiting (l.blocks b).state) =
    subst (λ (s : State). Decides c.is_waiting.result (IsWaiting s)) k.state c.is_waiting.ensures in
    implies_so _ _ _ _ _ (not_so _ _ k.own) (implies_so _ _ _ _ _ k.blocked at c.implies.ensures) c.implies-2.ensures
