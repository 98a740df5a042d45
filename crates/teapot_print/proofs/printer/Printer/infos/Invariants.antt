use Rattle.std.proofs.Common.{◌≡◌, drop, map}
use Rattle.teapot_parse.specs.Trees.{info_line}
use Rattle.teapot_print.specs.Printing.{put_lines}
use Rattle.teapot_print.proofs.printer.Printer.infos.Given as goal

abbrev pub invariant-infos : goal.invariant-infos
invariant-infos l = put_lines l.self (map info_line (drop l.info-index l.infos))
    ≡ put_lines l.initial.self (map info_line l.infos)
