use Rattle.std.proofs.Common.{◌≡◌, drop}
use Rattle.report_audit.specs.Lines.{first_other}
use Rattle.report_audit.proofs.lines.first_other.Given as goal

abbrev pub invariant-loop-at : goal.invariant-loop-at
invariant-loop-at l = first_other (drop l.at l.due) (drop l.at l.lines) l.next ≡ first_other l.due l.lines l.next
