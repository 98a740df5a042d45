use Rattle.std.proofs.Common.{◌≡◌, ◌<◌, List, length, get_or, set, rules, ap, ◌∙◌}
use Rattle.std.proofs.Math.ListN.{length-set}
use Rattle.dsm_runs.specs.declared.mode.Waiting.{Waiting}
use Rattle.dsm_runs.specs.Events.{free}
use Rattle.dsm_model.proofs.Deferring.{one_freed}
use Rattle.dsm_model.proofs.deferred.Deferred.free_first.Goals as goal

pub loop-at-preserved : goal.loop-at-preserved
loop-at-preserved c =
    let b = c.args.block in
    let ws : List Waiting = c.args.self.now in
    let now : List Waiting = c.loop-at.self in
    let k = c.loop-at.at in
    let d = c.index-items-at.result in
    let within : k < length ws = search rules in
    let one = one_freed b ws now k d within c.loop-at.invariant.done in
    let is : c.free-freed.result ≡ free b (get_or now k d) = c.free-freed.ensures
    ∙ ap (λ (w : Waiting). free b w) c.index-items-at.is
    ∙ ap (λ (xs : List Waiting). free b (get_or xs k d)) c.items.ensures in
    record {
      size = ap (λ (xs : List Waiting). length xs) c.set.ensures ∙ length-set now k c.free-freed.result
          ∙ c.loop-at.invariant.size;
      done = c.set.ensures ∙ ap (λ (w : Waiting). set now k w) is ∙ one;
    }
