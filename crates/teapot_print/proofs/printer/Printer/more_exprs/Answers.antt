use Rattle.std.proofs.Common.{ap, ◌∙◌}
use Rattle.teapot_lines.specs.Exprs.{spelled}
use Rattle.teapot_print.specs.Printing.{put_all}
use Rattle.teapot_print.proofs.Puts.{list-on}
use Rattle.teapot_print.proofs.printer.Printer.more_exprs.Goals as goal

pub rest-preserved : goal.rest-preserved
rest-preserved c = list-on spelled c.args.args.now c.rest.arg-index c.arg-item.result c.rest.self c.expr.new.self _
    c.rest-test.true c.arg-item.is (c.in_ok-expr.ensures ∙ ap
    (λ z. put_all z (spelled c.arg-item.result)) c.in_ok-mark.ensures) c.rest.invariant
