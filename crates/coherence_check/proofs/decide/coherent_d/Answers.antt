use Rattle.std.proofs.Common.{subst}
use Rattle.std.specs.Prelude.{MatchResult}
use Rattle.stache_d_inv.specs.Parts.{IsCoherent}
use Rattle.dsm_model.specs.Globals.{world_of}
use Rattle.dsm_runs.specs.Setups.{Setup}
use Rattle.coherence_check.specs.Breaches.{IsBrokenD}
use Rattle.coherence_check.proofs.decide.coherent_d.Goals as goal

pub returns : goal.returns
returns c =
    let w = world_of c.args.g.now in
    subst (λ (s : Setup). MatchResult c.decide.result (λ x. IsCoherent s w) (λ b. IsBrokenD s w b)) c.requires c.decide.ensures
