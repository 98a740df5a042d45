use Rattle.std.proofs.Common.{◌≡◌, take}
use Rattle.teapot_tree.proofs.+copy.Given as goal

abbrev pub invariant-copy::copy_stmts-loop-s : goal.invariant-copy::copy_stmts-loop-s
invariant-copy::copy_stmts-loop-s l = l.copies ≡ take l.s-index l.stmts
