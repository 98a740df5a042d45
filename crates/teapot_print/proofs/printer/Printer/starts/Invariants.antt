use Rattle.std.proofs.Common.{◌≡◌, drop, map}
use Rattle.teapot_parse.specs.Trees.{start_line}
use Rattle.teapot_print.specs.Printing.{put_lines}
use Rattle.teapot_print.proofs.printer.Printer.starts.Given as goal

abbrev pub invariant-starts : goal.invariant-starts
invariant-starts l = put_lines l.self (map start_line (drop l.start-index l.starts))
    ≡ put_lines l.initial.self (map start_line l.starts)
