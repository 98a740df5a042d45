use Rattle.std.proofs.Common.{not}
use Rattle.std.specs.List.{flat_map}
use Rattle.teapot_tree.specs.declared.protocol.State.{State}
use Rattle.teapot_tree.specs.Rules.{has_default}
use Rattle.teapot_rules.specs.Lists.{least, line_if}
use Rattle.teapot_rules.proofs.Looping.{flat_more}
use Rattle.teapot_rules.proofs.breaks.without_default.Goals as goal

pub loop-s-preserved : goal.loop-s-preserved
loop-s-preserved c =
    let lines = λ (s : State). line_if (not (has_default s)) s.line in
    let e = flat_more lines c.args.states.now c.loop-s.s-index c.s-item.result
    (least (flat_map lines c.args.states.now)) c.loop-s.least c.loop-s-test.true c.s-item.is c.loop-s.invariant in
    cc
