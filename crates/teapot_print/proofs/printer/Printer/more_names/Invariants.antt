use Rattle.std.proofs.Common.{◌≡◌, drop}
use Rattle.teapot_lines.specs.Parts.{tails, spelled_name}
use Rattle.teapot_print.specs.Printing.{put_all}
use Rattle.teapot_print.proofs.printer.Printer.more_names.Given as goal

abbrev pub invariant-names : goal.invariant-names
invariant-names l = put_all l.self (tails spelled_name (drop l.name-index l.names))
    ≡ put_all l.initial.self (tails spelled_name l.names)
