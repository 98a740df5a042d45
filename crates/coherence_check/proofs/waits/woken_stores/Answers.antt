use Rattle.std.proofs.Common.{◌≡◌, true, subst}
use Rattle.std.specs.Bool.{Decides}
use Rattle.tw_base.specs.declared.value.Tag.{Tag}
use Rattle.block_tags.specs.Copies.{permits}
use Rattle.coherence_check.proofs.Deciding.{implies_so}
use Rattle.coherence_check.proofs.waits.woken_stores.Goals as goal

pub returns : goal.returns
returns c = λ h i b l k.
    let at : Decides c.stores_at.result (permits (l.blocks b).tag true ≡ true) =
    subst (λ (t : Tag). Decides c.stores_at.result (permits t true ≡ true)) k.tag c.stores_at.ensures in
    implies_so _ _ _ _ _ k.woken (implies_so _ _ _ _ _ k.may
    (implies_so _ _ _ _ _ k.stores at c.implies.ensures) c.implies-2.ensures) c.implies-3.ensures
