use Rattle.std.proofs.Common.{◌≡◌, ◌++◌, take}
use Rattle.teapot_meaning.specs.Fits.{types_of}
use Rattle.code_walks.proofs.kinds.add_params.Given as goal

abbrev pub invariant-loop-a : goal.invariant-loop-a
invariant-loop-a l = l.types ≡ l.initial.types ++ types_of (take l.a-index l.params)
