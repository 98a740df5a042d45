use Rattle.std.proofs.Common.{List, nat_lt, ap, ◌∙◌}
use Rattle.dsm_runs.specs.declared.mode.Waiting.{Waiting}
use Rattle.dsm_runs.specs.Tests.{has_eligible}
use Rattle.dsm_model.proofs.Counting.{some_counted}
use Rattle.dsm_model.proofs.deferred.Deferred.has_eligible.Goals as goal

pub returns : goal.returns
returns c =
    ap (λ n. nat_lt 0 n) c.self.invariant ∙ some_counted (λ (w : Waiting). w.eligible) c.self.inside.items
    ∙ ap (λ (ws : List Waiting). has_eligible ws) c.self.view_is
