use Rattle.std.proofs.Common.{◌≡◌, take}
use Rattle.teapot_tree.proofs.copy.copy_exprs.Given as goal

abbrev pub invariant-loop-e : goal.invariant-loop-e
invariant-loop-e l = l.copies ≡ take l.e-index l.exprs
