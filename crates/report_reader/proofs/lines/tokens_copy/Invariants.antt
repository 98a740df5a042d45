use Rattle.std.proofs.Common.{◌≡◌, take}
use Rattle.report_reader.proofs.lines.tokens_copy.Given as goal

abbrev pub invariant-loop-token : goal.invariant-loop-token
invariant-loop-token l = l.copy ≡ take l.token-index l.tokens
