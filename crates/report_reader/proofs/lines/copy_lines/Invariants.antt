use Rattle.std.proofs.Common.{◌≡◌, take}
use Rattle.report_reader.specs.Reading.{printed}
use Rattle.report_reader.proofs.lines.copy_lines.Given as goal

abbrev pub invariant-loop-line : goal.invariant-loop-line
invariant-loop-line l = l.copy ≡ printed (take l.line-index l.lines)
