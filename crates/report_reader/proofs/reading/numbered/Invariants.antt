use Rattle.std.proofs.Common.{◌≡◌, drop}
use Rattle.report_reader.specs.Reading.{numbered}
use Rattle.report_reader.proofs.reading.numbered.Given as goal

abbrev pub invariant-loop-number : goal.invariant-loop-number
invariant-loop-number l = numbered l.number (drop l.number l.events) ≡ numbered 0 l.events
