use Rattle.std.proofs.Common.{ap, sym, ◌∙◌}
use Rattle.teapot_lines.specs.Exprs.{spelled}
use Rattle.teapot_lines.specs.Parts.{spelled_list}
use Rattle.teapot_print.specs.Printing.{put_all}
use Rattle.teapot_print.proofs.Puts.{on_ok, first-put}
use Rattle.teapot_print.proofs.printer.Printer.exprs.Goals as goal

pub returns-in_ok-expr-in-Some : goal.returns-in_ok-expr-in-Some
returns-in_ok-expr-in-Some c =
    on_ok c.more_exprs.result (λ e.
    first-put spelled c.in-Some.first.now c.in-Some.rest.now c.args.self.now c.expr.new.self c.more_exprs.new.self
    c.in_ok-expr-in-Some.ensures e
    ∙ ap (λ xs. put_all c.args.self.now (spelled_list spelled xs)) (sym c.in-Some.ensures.cases.0)) c.more_exprs.ensures
