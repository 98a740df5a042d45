use Rattle.teapot_meaning.specs.declared.state.Ended.{Ended}
use Rattle.teapot_meaning.specs.Depth.{work}
use Rattle.teapot_meaning.specs.Goes.{Goes}
use Rattle.teapot_interpreter.proofs.interpreter.go.Given as goal

-- what is left comes to the end that the whole comes to
abbrev pub invariant-steps : goal.invariant-steps
invariant-steps l = (e : Ended) → Goes l.p l.stmts l.r e → Goes l.p l.fn.stmts l.fn.r e

abbrev pub decreases-steps : goal.decreases-steps
decreases-steps l = work l.stmts l.r
