use Rattle.std.proofs.Common.{◌≡◌}
use Rattle.std.specs.List.{flat_map, range_with_len}
use Rattle.report_audit.specs.Lines.{registers_due}
use Rattle.report_audit.proofs.lines.registers_due.Given as goal

abbrev pub invariant-loop-number : goal.invariant-loop-number
invariant-loop-number l = l.due ≡ flat_map (registers_due l.flat) (range_with_len 0 l.number)
