use Rattle.teapot_parse.specs.Trees.{handler_lines}
use Rattle.teapot_print.proofs.Puts.{flat-on}
use Rattle.teapot_print.proofs.printer.Printer.handlers.Goals as goal

pub handlers-preserved : goal.handlers-preserved
handlers-preserved c = flat-on handler_lines c.args.handlers.now c.handlers.handler-index c.handler-item.result c.handlers.self
    c.handler.new.self _ c.handlers-test.true c.handler-item.is c.in_ok-handler.ensures c.handlers.invariant
