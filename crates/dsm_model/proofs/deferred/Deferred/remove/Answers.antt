use Rattle.std.proofs.Common.{◌<◌, List, length, rules, ap, arith}
use Rattle.std.proofs.lemmas.Grind.{common_steps}
use Rattle.std.specs.List.{count_by}
use Rattle.dsm_runs.specs.declared.mode.Waiting.{Waiting}
use Rattle.dsm_model.proofs.Counting.{count_removed}
use Rattle.dsm_model.proofs.deferred.Deferred.remove.Goals as goal

pub overflow_sub-self : goal.overflow_sub-self
overflow_sub-self c =
    let within : c.args.at < length c.self.inside.items = search rules in
    let all = count_removed c.self.inside.items c.args.at c.remove-waiting.result within c.remove-waiting.ensures.item in
    grind (arith, common_steps, all, c.from.ensures, c.self.invariant)

pub invariant_of-self : goal.invariant_of-self
invariant_of-self c =
    let within : c.args.at < length c.self.inside.items = search rules in
    let all = count_removed c.self.inside.items c.args.at c.remove-waiting.result within c.remove-waiting.ensures.item in
    let rest = ap (λ (ws : List Waiting). count_by (λ w. w.eligible) ws) c.remove-waiting.ensures.rest in
    grind (arith, common_steps, all, rest, c.from.ensures, c.self.invariant)
