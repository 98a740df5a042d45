use Rattle.std.proofs.Common.{◌≡◌, subst}
use Rattle.std.specs.Bool.{Decides}
use Rattle.block_spots.specs.Cases.{Here}
use Rattle.coherence_inv.specs.Coherent.{IsHomeState, tag_of}
use Rattle.coherence_check.proofs.parts.home_has_tag.Goals as goal

pub returns : goal.returns
returns c = subst (λ (z : Here). Decides c.has_tag.result (IsHomeState z.state × (z.tag ≡ tag_of z.state))) c.home_at.ensures
    c.has_tag.ensures
