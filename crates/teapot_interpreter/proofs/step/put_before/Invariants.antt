use Rattle.std.proofs.Common.{◌≡◌, ◌++◌, length}
use Rattle.teapot_interpreter.proofs.step.put_before.Given as goal

-- what is left before what was put there
abbrev pub invariant-stmts : goal.invariant-stmts
invariant-stmts l = l.left ++ l.all ≡ l.fn.stmts ++ l.fn.rest

abbrev pub decreases-stmts : goal.decreases-stmts
decreases-stmts l = length l.left
