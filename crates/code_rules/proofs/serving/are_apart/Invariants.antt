use Rattle.std.proofs.Common.{◌≡◌, drop}
use Rattle.code_rules.specs.Serving.{are_apart}
use Rattle.code_rules.proofs.serving.are_apart.Given as goal

abbrev pub invariant-loop-number : goal.invariant-loop-number
invariant-loop-number l = are_apart l.doors ≡ are_apart (drop l.number l.doors)
