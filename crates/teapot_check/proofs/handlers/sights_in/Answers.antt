use Rattle.std.proofs.Common.{◌++◌, ap, ◌∙◌}
use Rattle.teapot_check.specs.Handlers.{state_lines}
use Rattle.teapot_check.proofs.Gathering.{lists_more}
use Rattle.teapot_check.proofs.handlers.sights_in.Goals as goal

pub loop-state-preserved : goal.loop-state-preserved
loop-state-preserved c = λ r.
    let own = state_lines r c.args.protocol.now in
    c.in_ok-add.ensures r
    ∙ ap (λ z. z ++ own c.state-item.result) (c.loop-state.invariant r)
    ∙ lists_more own c.items-states.result.now c.loop-state.state-index c.state-item.result c.loop-state-test.true c.state-item.is
