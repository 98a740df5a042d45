use Rattle.std.proofs.Common.{◌≡◌, take}
use Rattle.teapot_meaning.proofs.copy.copy_bounds.Given as goal

abbrev pub invariant-loop-b : goal.invariant-loop-b
invariant-loop-b l = l.copies ≡ take l.b-index l.bounds
