use Rattle.std.proofs.Common.{◌≡◌, true}
use Rattle.code_rules.specs.Tests.{is_broken}
use Rattle.code_walks.proofs.Leasts.{NoneBefore}
use Rattle.code_rules.proofs.ops.first_op.Given as goal

abbrev pub invariant-loop-at : goal.invariant-loop-at
invariant-loop-at l = NoneBefore l.fn.part.door.at l.at (λ k. is_broken l.p l.code l.fn.part l.rule k ≡ true)
