use Rattle.code_rules.specs.Faults.{FirstBelow}
use Rattle.code_rules.proofs.verifier.first_fault.Given as goal

abbrev pub invariant-loop-number : goal.invariant-loop-number
invariant-loop-number l = FirstBelow l.code l.p l.number l.first
