use Rattle.std.proofs.Common.{◌≡◌, drop}
use Rattle.teapot_lines.specs.Exprs.{spelled}
use Rattle.teapot_lines.specs.Parts.{tails}
use Rattle.teapot_print.specs.Printing.{put_all}
use Rattle.teapot_print.proofs.printer.Printer.more_exprs.Given as goal

abbrev pub invariant-rest : goal.invariant-rest
invariant-rest l = put_all l.self (tails spelled (drop l.arg-index l.args)) ≡ put_all l.initial.self (tails spelled l.args)
