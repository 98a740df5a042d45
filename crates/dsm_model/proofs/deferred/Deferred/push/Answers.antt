use Rattle.std.proofs.Common.{List, ap, arith}
use Rattle.std.proofs.lemmas.Grind.{common_steps}
use Rattle.std.proofs.lemmas.List.Sums.{count_by-le-length}
use Rattle.std.specs.List.{count_by}
use Rattle.dsm_runs.specs.declared.mode.Waiting.{Waiting}
use Rattle.dsm_model.proofs.deferred.Deferred.push.Goals as goal

pub overflow_add-self : goal.overflow_add-self
overflow_add-self c =
    let all = ap (λ (ws : List Waiting). count_by (λ w. w.eligible) ws) c.in_ok-push.ensures.ok in
    let within = count_by-le-length (λ (w : Waiting). w.eligible) c.push.new.self in
    grind (arith, common_steps, all, within, c.len-count.ensures, c.from.ensures, c.self.invariant)
