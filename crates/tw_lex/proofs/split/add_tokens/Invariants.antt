use Rattle.std.proofs.Common.{◌≡◌, ◌+◌, ◌-◌, ◌≤◌, length, drop}
use Rattle.tw_lex.specs.Lines.{tokens_from}
use Rattle.tw_lex.proofs.Scan.{with_front}
use Rattle.tw_lex.proofs.split.add_tokens.Given as goal

abbrev pub invariant-loop-at : goal.invariant-loop-at
invariant-loop-at l =
    (l.at ≤ length l.code) × (with_front l.tokens.items (tokens_from 0 (l.start + l.at) (drop l.at l.code))
    ≡ tokens_from 0 l.start l.code)

abbrev pub decreases-loop-at : goal.decreases-loop-at
decreases-loop-at l = length l.code - l.at
