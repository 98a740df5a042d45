use Rattle.std.proofs.Common.{◌≡◌}
use Rattle.std.specs.List.{flat_map}
use Rattle.teapot_rules.specs.Deeds.{scope_of}
use Rattle.teapot_rules.specs.Faults.{handler_lines}
use Rattle.teapot_rules.specs.Lists.{least}
use Rattle.teapot_rules.proofs.Looping.{flat_more}
use Rattle.teapot_check.specs.declared.sight.Sight.{Sight}
use Rattle.teapot_check.proofs.checker.in_handlers.Goals as goal

pub loop-sight-preserved : goal.loop-sight-preserved
loop-sight-preserved c =
    let lines = λ (x : Sight). handler_lines c.args.rule (scope_of x.scope) in
    let found : c.in_ok-handler_line.field-0 ≡ least (lines c.sight-item.result) = c.in_ok-handler_line.ensures in
    let e = flat_more lines c.args.sights.now c.loop-sight.sight-index c.sight-item.result
    (least (flat_map lines c.args.sights.now)) c.loop-sight.least c.loop-sight-test.true c.sight-item.is
    c.loop-sight.invariant in
    cc
