use Rattle.std.proofs.Common.{◌≡◌, drop}
use Rattle.std.specs.List.{flat_map}
use Rattle.teapot_parse.specs.Trees.{state_lines}
use Rattle.teapot_print.specs.Printing.{put_lines}
use Rattle.teapot_print.proofs.printer.Printer.states.Given as goal

abbrev pub invariant-states : goal.invariant-states
invariant-states l = put_lines l.self (flat_map state_lines (drop l.state-index l.states))
    ≡ put_lines l.initial.self (flat_map state_lines l.states)
