use Rattle.std.proofs.Common.{◌≡◌, drop, map}
use Rattle.teapot_parse.specs.Trees.{local_line}
use Rattle.teapot_print.specs.Printing.{put_lines}
use Rattle.teapot_print.proofs.printer.Printer.locals.Given as goal

abbrev pub invariant-locals : goal.invariant-locals
invariant-locals l = put_lines l.self (map local_line (drop l.local-index l.locals))
    ≡ put_lines l.initial.self (map local_line l.locals)
