use Rattle.code_walks.specs.Least.{IsLeast}
use Rattle.code_rules.specs.Serving.{LosesSlot}
use Rattle.code_rules.proofs.Doorways.{RestBefore}
use Rattle.code_rules.proofs.rests.first_of_losing.Given as goal

abbrev pub invariant-loop-number : goal.invariant-loop-number
invariant-loop-number l = IsLeast (RestBefore l.code (λ number rest. LosesSlot l.code rest) l.number) l.least
