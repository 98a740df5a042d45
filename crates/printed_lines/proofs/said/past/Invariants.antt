use Rattle.std.proofs.Common.{◌≡◌, drop, map}
use Rattle.printed_lines.specs.Saying.{meant, past}
use Rattle.printed_lines.specs.Tokens.{whats}
use Rattle.printed_lines.proofs.said.past.Given as goal

abbrev pub invariant-loop-at : goal.invariant-loop-at
invariant-loop-at l = past (map meant (drop l.at l.said)) (whats (drop l.at l.tokens)) ≡ past (map meant l.said) (whats l.tokens)
