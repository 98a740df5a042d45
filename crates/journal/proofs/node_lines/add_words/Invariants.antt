use Rattle.std.proofs.Common.{◌≡◌, ◌++◌, take}
use Rattle.std.specs.List.{flat_map, enumerate_from}
use Rattle.journal.specs.Reports.{word_line}
use Rattle.journal.proofs.node_lines.add_words.Given as goal

abbrev pub invariant-loop-address : goal.invariant-loop-address
invariant-loop-address l = l.out ≡ l.initial.out ++ flat_map word_line (enumerate_from 0 (take l.address l.words))
