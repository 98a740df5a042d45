use Rattle.std.proofs.Common.{◌≡◌, [], drop, take}
use Rattle.teapot_check.specs.Passing.{recurs}
use Rattle.teapot_check.specs.Variables.{variables_of}
use Rattle.teapot_check.proofs.passing.recurs.Given as goal

abbrev pub invariant-loop-at : goal.invariant-loop-at
invariant-loop-at l = recurs [] (variables_of l.variables)
    ≡ recurs (variables_of (take l.at l.variables)) (variables_of (drop l.at l.variables))
