use Rattle.code_walks.specs.Least.{IsLeast}
use Rattle.code_rules.specs.Tests.{BreaksAt}
use Rattle.code_rules.proofs.Doorways.{OpBefore}
use Rattle.code_rules.proofs.ops.first_in_handlers.Given as goal

abbrev pub invariant-loop-number : goal.invariant-loop-number
invariant-loop-number l = IsLeast (OpBefore l.code (BreaksAt l.p l.code l.rule) l.number) l.least
