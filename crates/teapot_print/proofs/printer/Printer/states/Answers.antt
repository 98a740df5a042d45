use Rattle.teapot_parse.specs.Trees.{state_lines}
use Rattle.teapot_print.proofs.Puts.{flat-on}
use Rattle.teapot_print.proofs.printer.Printer.states.Goals as goal

pub states-preserved : goal.states-preserved
states-preserved c = flat-on state_lines c.args.states.now c.states.state-index c.state-item.result c.states.self
    c.state.new.self _ c.states-test.true c.state-item.is c.in_ok-state.ensures c.states.invariant
