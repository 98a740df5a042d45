use Rattle.std.proofs.Common.{◌≡◌, false}
use Rattle.code_walks.specs.Least.{IsLeast}
use Rattle.code_rules.specs.Serving.{is_placed}
use Rattle.code_rules.proofs.Doorways.{RestBefore}
use Rattle.code_rules.proofs.rests.first_of_unplaced.Given as goal

abbrev pub invariant-loop-number : goal.invariant-loop-number
invariant-loop-number l = IsLeast (RestBefore l.code (λ number rest. is_placed l.code number rest ≡ false) l.number) l.least
