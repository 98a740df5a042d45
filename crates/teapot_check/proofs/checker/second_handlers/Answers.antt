use Rattle.std.proofs.Common.{◌≡◌, ap, ◌∙◌}
use Rattle.std.specs.List.{flat_map}
use Rattle.teapot_tree.specs.declared.protocol.State.{State}
use Rattle.teapot_rules.specs.Faults.{again_handlers}
use Rattle.teapot_rules.specs.Lists.{least}
use Rattle.teapot_rules.proofs.Looping.{flat_more}
use Rattle.teapot_check.proofs.checker.second_handlers.Goals as goal

pub loop-s-preserved : goal.loop-s-preserved
loop-s-preserved c =
    let lines = λ (s : State). again_handlers s.handlers in
    let found : c.again.result ≡ least (lines c.s-item.result) = c.again.ensures
    ∙ ap (λ z. least (again_handlers z)) c.items.ensures in
    let e = flat_more lines c.args.states.now c.loop-s.s-index c.s-item.result
    (least (flat_map lines c.args.states.now)) c.loop-s.least c.loop-s-test.true c.s-item.is c.loop-s.invariant in
    cc
