use Rattle.std.proofs.Common.{◌≡◌, take}
use Rattle.std.specs.List.{flat_map, enumerate_from}
use Rattle.report_audit.specs.Lines.{word_due}
use Rattle.report_audit.proofs.lines.words_due.Given as goal

abbrev pub invariant-loop-address : goal.invariant-loop-address
invariant-loop-address l = l.due ≡ flat_map word_due (enumerate_from 0 (take l.address l.words))
