use Rattle.std.proofs.Common.{◌≡◌, ◌++◌, take}
use Rattle.stache_cases.specs.Text.{rows_text}
use Rattle.stache_cases.proofs.text.add_rows.Given as goal

abbrev pub invariant-loop-number : goal.invariant-loop-number
invariant-loop-number l = l.out ≡ l.initial.out ++ rows_text (take l.number l.rows)
