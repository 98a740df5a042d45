use Rattle.std.proofs.Common.{[], ap, ◌∙◌}
use Rattle.teapot_parse.specs.Trees.{lines_of}
use Rattle.teapot_print.specs.declared.printer.Last.TheVariants.{Begin}
use Rattle.teapot_print.specs.declared.printer.Printer.{Printer}
use Rattle.teapot_print.specs.Text.{canon}
use Rattle.teapot_print.specs.Printing.{put_lines}
use Rattle.teapot_print.proofs.Puts.{put_lines-text}
use Rattle.teapot_print.proofs.printing.print.Goals as goal

pub returns : goal.returns
unfolding canon
returns c =
    c.into_vec.ensures ∙ ap (λ (s : Printer). s.text) c.in_ok-protocol.ensures
    ∙ ap (λ (s : Printer). (put_lines s (lines_of c.args.p.now)).text) c.new-printer.ensures
    ∙ put_lines-text (lines_of c.args.p.now) (record { text = []; last = Begin; begins = 0 })
