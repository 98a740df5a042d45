use Rattle.std.proofs.Common.{ℕ, subst}
use Rattle.std.specs.Bool.{Decides}
use Rattle.dsm_model.specs.Globals.{setup_of, world_of}
use Rattle.coherence_check.specs.Under.{spots_under}
use Rattle.coherence_reads.specs.Seeing.{OwnPlaces}
use Rattle.coherence_check.proofs.parts.home_has_its_places.Goals as goal

pub returns : goal.returns
returns c =
    subst (λ (h : ℕ). Decides c.own_places.result (OwnPlaces
    (spots_under c.args.directory (setup_of c.args.g.now) (world_of c.args.g.now) c.args.block h))) c.home.ensures.value
    (c.own_places.ensures _ _ _ c.spot_at.ensures)
