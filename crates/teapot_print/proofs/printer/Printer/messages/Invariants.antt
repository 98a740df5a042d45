use Rattle.std.proofs.Common.{◌≡◌, drop, map}
use Rattle.teapot_parse.specs.Trees.{message_line}
use Rattle.teapot_print.specs.Printing.{put_lines}
use Rattle.teapot_print.proofs.printer.Printer.messages.Given as goal

abbrev pub invariant-messages : goal.invariant-messages
invariant-messages l = put_lines l.self (map message_line (drop l.m-index l.messages))
    ≡ put_lines l.initial.self (map message_line l.messages)
