use Rattle.std.proofs.Common.{subst}
use Rattle.std.specs.Prelude.{MatchResult}
use Rattle.coherence_inv.specs.Parts.{IsCoherent}
use Rattle.dsm_model.specs.Globals.{world_of}
use Rattle.dsm_runs.specs.Setups.{Setup}
use Rattle.coherence_check.specs.Breaches.{IsBroken}
use Rattle.coherence_check.proofs.decide.coherent.Goals as goal

pub returns : goal.returns
returns c =
    let w = world_of c.args.g.now in
    subst (λ (s : Setup). MatchResult c.decide.result (λ x. IsCoherent s w) (λ b. IsBroken s w b)) c.requires c.decide.ensures
