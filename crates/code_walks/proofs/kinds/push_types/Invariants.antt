use Rattle.std.proofs.Common.{◌≡◌, drop}
use Rattle.code_walks.specs.Kinds.{pushed_on}
use Rattle.code_walks.proofs.kinds.push_types.Given as goal

abbrev pub invariant-loop-ty : goal.invariant-loop-ty
invariant-loop-ty l = pushed_on l.stack (drop l.ty-index l.types) ≡ pushed_on l.initial.stack l.types
