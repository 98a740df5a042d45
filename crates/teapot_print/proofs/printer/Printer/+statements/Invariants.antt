use Rattle.std.proofs.Common.{◌≡◌, drop}
use Rattle.teapot_tree.specs.Bodies.{body_of}
use Rattle.teapot_parse.specs.Trees.{body_lines}
use Rattle.teapot_print.specs.Printing.{put_lines}
use Rattle.teapot_print.proofs.printer.Printer.+statements.Given as goal

abbrev pub invariant-statements-stmts : goal.invariant-statements-stmts
invariant-statements-stmts l = put_lines l.self (body_lines (body_of (drop l.stmt-index l.stmts)))
    ≡ put_lines l.initial.self (body_lines (body_of l.stmts))
