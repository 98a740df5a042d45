use Rattle.std.proofs.Common.{◌≡◌, ◌+◌, ◌-◌, ◌≤◌, [], length, drop}
use Rattle.tw_lex.specs.Lines.{lines_of, lines_from}
use Rattle.tw_lex.proofs.Splitting.{with_front}
use Rattle.tw_lex.proofs.split.lines.Given as goal

abbrev pub invariant-loop-start : goal.invariant-loop-start
invariant-loop-start l =
    (l.start ≤ length l.text + 1) × (l.all ≤ l.start) × (l.all + length (lines_of (drop l.start l.text))
    ≡ length (lines_of l.text))
    × (l.tokens.items ≡ [])
    × (with_front l.list.items (lines_from (l.all + 1) l.start (lines_of (drop l.start l.text)))
    ≡ lines_from 1 0 (lines_of l.text))

abbrev pub decreases-loop-start : goal.decreases-loop-start
decreases-loop-start l = length l.text - l.start
