use Rattle.std.proofs.Common.{ℕ, subst}
use Rattle.std.specs.Bool.{Decides}
use Rattle.block_spots.specs.Cases.{Here}
use Rattle.dsm_model.specs.Globals.{setup_of, world_of}
use Rattle.dsm_runs.specs.Setups.{home_of}
use Rattle.coherence_check.specs.Under.{spots_under}
use Rattle.coherence_reads.specs.Seeing.{OwnRequests, here_in}
use Rattle.coherence_check.proofs.parts.home_has_its_requests.Goals as goal

pub returns : goal.returns
returns c =
    let s = setup_of c.args.g.now in
    let w = world_of c.args.g.now in
    let b = c.args.block in
    subst (λ (z : Here). Decides c.own_requests.result (OwnRequests z (spots_under c.args.directory s w b (home_of s b))))
    c.home_at-own.ensures
    (subst (λ (h : ℕ). Decides c.own_requests.result (OwnRequests (here_in c.home_at-own.result)
    (spots_under c.args.directory s w b h))) c.home.ensures.value (c.own_requests.ensures _ _ _ c.spot_at.ensures))
