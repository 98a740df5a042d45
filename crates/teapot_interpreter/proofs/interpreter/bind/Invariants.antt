use Rattle.std.proofs.Common.{◌≡◌, ◌++◌, drop}
use Rattle.teapot_meaning.specs.Does.{bound}
use Rattle.teapot_interpreter.proofs.interpreter.bind.Given as goal

abbrev pub invariant-pairs : goal.invariant-pairs
invariant-pairs l = l.vars ++ bound (drop l.at l.names) (drop l.at l.values) ≡ bound l.names l.values
