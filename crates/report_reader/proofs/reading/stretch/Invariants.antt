use Rattle.std.proofs.Common.{◌≡◌, ◌+◌, drop}
use Rattle.report_reader.specs.Reading.{stretch}
use Rattle.report_reader.proofs.reading.stretch.Given as goal

abbrev pub invariant-loop-before : goal.invariant-loop-before
invariant-loop-before l = l.before + stretch l.shape l.wanted l.before (drop l.before l.lines)
    ≡ stretch l.shape l.wanted 0 l.lines
