use Rattle.std.proofs.Common.{◌≡◌, drop}
use Rattle.std.specs.List.{flat_map}
use Rattle.teapot_parse.specs.Trees.{handler_lines}
use Rattle.teapot_print.specs.Printing.{put_lines}
use Rattle.teapot_print.proofs.printer.Printer.handlers.Given as goal

abbrev pub invariant-handlers : goal.invariant-handlers
invariant-handlers l = put_lines l.self (flat_map handler_lines (drop l.handler-index l.handlers))
    ≡ put_lines l.initial.self (flat_map handler_lines l.handlers)
