use Rattle.std.proofs.Common.{◌≡◌, true, false, subst}
use Rattle.std.specs.Bool.{Decides}
use Rattle.tw_base.specs.declared.value.Tag.{Tag}
use Rattle.block_tags.specs.Copies.{permits}
use Rattle.coherence_check.proofs.Deciding.{implies_so}
use Rattle.coherence_check.proofs.waits.woken_loads.Goals as goal

pub returns : goal.returns
returns c = λ h i b l k.
    let at : Decides c.loads_at.result (permits (l.blocks b).tag false ≡ true) =
    subst (λ (t : Tag). Decides c.loads_at.result (permits t false ≡ true)) k.tag c.loads_at.ensures in
    implies_so _ _ _ _ _ k.woken (implies_so _ _ _ _ _ k.may
    (implies_so _ _ _ _ _ k.loads at c.implies.ensures) c.implies-2.ensures) c.implies-3.ensures
