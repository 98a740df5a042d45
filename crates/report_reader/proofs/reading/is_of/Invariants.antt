use Rattle.std.proofs.Common.{◌≡◌, drop}
use Rattle.report_reader.specs.Reading.{is_of}
use Rattle.report_reader.proofs.reading.is_of.Given as goal

abbrev pub invariant-loop-kind : goal.invariant-loop-kind
invariant-loop-kind l = is_of l.shape (drop l.kind-index l.wanted) l.before l.tokens ≡ is_of l.shape l.wanted l.before l.tokens
