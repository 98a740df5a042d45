use Rattle.std.proofs.Common.{◌≡◌, length}
use Rattle.code_walks.specs.Kinds.{without}
use Rattle.code_walks.proofs.kinds.without.Given as goal

abbrev pub invariant-loop-ty : goal.invariant-loop-ty
invariant-loop-ty l = without l.stack l.needed ≡ without l.initial.stack l.initial.needed

abbrev pub decreases-loop-ty : goal.decreases-loop-ty
decreases-loop-ty l = length l.needed
