use Rattle.code_walks.specs.Least.{IsLeast}
use Rattle.code_walks.proofs.Depths.{LedBefore}
use Rattle.code_walks.proofs.stacks.first_led_to.Given as goal

abbrev pub invariant-loop-at : goal.invariant-loop-at
invariant-loop-at l = IsLeast (LedBefore l.code l.fn.part l.at) l.least
