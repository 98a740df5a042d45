use Rattle.std.proofs.Common.{◌≡◌, take}
use Rattle.teapot_tree.specs.Bare.{bare_all}
use Rattle.teapot_tree.proofs.+same.Given as goal

abbrev pub invariant-compare::same_stmts-loop-at : goal.invariant-compare::same_stmts-loop-at
invariant-compare::same_stmts-loop-at l = bare_all (take l.at l.a) ≡ bare_all (take l.at l.b)
