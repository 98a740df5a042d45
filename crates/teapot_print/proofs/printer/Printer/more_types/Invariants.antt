use Rattle.std.proofs.Common.{◌≡◌, drop}
use Rattle.teapot_lines.specs.Parts.{tails, spelled_type}
use Rattle.teapot_print.specs.Printing.{put_all}
use Rattle.teapot_print.proofs.printer.Printer.more_types.Given as goal

abbrev pub invariant-types : goal.invariant-types
invariant-types l = put_all l.self (tails spelled_type (drop l.ty-index l.types))
    ≡ put_all l.initial.self (tails spelled_type l.types)
