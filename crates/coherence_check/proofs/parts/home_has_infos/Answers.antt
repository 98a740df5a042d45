use Rattle.std.proofs.Common.{ℕ, subst}
use Rattle.std.specs.Bool.{Decides}
use Rattle.block_spots.specs.Cases.{Here}
use Rattle.dsm_model.specs.Globals.{setup_of, world_of}
use Rattle.dsm_runs.specs.Setups.{home_of}
use Rattle.coherence_check.specs.Under.{home_under}
use Rattle.coherence_reads.specs.Directories.{InfosUnder}
use Rattle.coherence_check.proofs.parts.home_has_infos.Goals as goal

pub returns : goal.returns
returns c =
    let r = c.infos_fit.result in
    let x : Here = home_under c.args.directory (setup_of c.args.g.now) (world_of c.args.g.now) c.args.block in
    subst (λ (n : ℕ). Decides r (InfosUnder c.args.directory n (home_of (setup_of c.args.g.now) c.args.block) x.state x))
    c.nodes.ensures.value
    (subst (λ (h : ℕ). Decides r (InfosUnder c.args.directory c.nodes.result h x.state x)) c.home.ensures.value
    (subst (λ (z : Here). Decides r (InfosUnder c.args.directory c.nodes.result c.home.result z.state z)) c.home_at.ensures
    c.infos_fit.ensures))
