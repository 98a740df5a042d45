use Rattle.std.proofs.Common.{◌≡◌}
use Rattle.code_walks.specs.Kinds.{with_sets}
use Rattle.code_walks.proofs.kinds.add_sets.Given as goal

abbrev pub invariant-loop-set : goal.invariant-loop-set
invariant-loop-set l = l.types ≡ with_sets l._set l.initial.types
