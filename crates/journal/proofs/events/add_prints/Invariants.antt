use Rattle.std.proofs.Common.{◌≡◌, ◌++◌, take}
use Rattle.std.specs.List.{flat_map}
use Rattle.journal.specs.Reports.{print_line}
use Rattle.journal.proofs.events.add_prints.Given as goal

abbrev pub invariant-loop-entry : goal.invariant-loop-entry
invariant-loop-entry l = l.out ≡ l.initial.out ++ flat_map print_line (take l.entry-index l.journal)
