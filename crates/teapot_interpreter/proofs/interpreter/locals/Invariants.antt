use Rattle.std.proofs.Common.{◌≡◌, take}
use Rattle.std.specs.Prelude.{map}
use Rattle.teapot_meaning.specs.Does.{local_of}
use Rattle.teapot_interpreter.proofs.interpreter.locals.Given as goal

abbrev pub invariant-loop-param : goal.invariant-loop-param
invariant-loop-param l = l.vars ≡ map local_of (take l.param-index l.params)
