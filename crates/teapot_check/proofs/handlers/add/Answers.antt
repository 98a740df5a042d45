use Rattle.std.proofs.Common.{◌++◌, ap, ◌∙◌, append_assoc, take}
use Rattle.std.specs.List.{flat_map}
use Rattle.teapot_tree.specs.declared.protocol.Handler.{Handler}
use Rattle.teapot_rules.specs.Faults.{handler_lines}
use Rattle.teapot_check.specs.Handlers.{lines_in, scope_in}
use Rattle.teapot_check.proofs.Gathering.{lists_more}
use Rattle.teapot_check.proofs.handlers.add.Goals as goal

pub loop-handler-preserved : goal.loop-handler-preserved
loop-handler-preserved c = λ r.
    let own = λ (h : Handler). handler_lines r (scope_in c.args.protocol.now c.args.state.now h) in
    let before = lines_in r c.args.sights.now in
    c.in_ok-keep.ensures r
    ∙ ap (λ z. lines_in r c.loop-handler.sights ++ handler_lines r z) (c.in_ok-new.ensures ∙ c.in_ok-scope.ensures)
    ∙ ap (λ z. z ++ own c.handler-item.result) (c.loop-handler.invariant r)
    ∙ append_assoc before (flat_map own (take c.loop-handler.handler-index c.items-handlers.result.now))
    (own c.handler-item.result)
    ∙ ap (λ z. before ++ z) (lists_more own c.items-handlers.result.now c.loop-handler.handler-index c.handler-item.result
    c.loop-handler-test.true c.handler-item.is)
