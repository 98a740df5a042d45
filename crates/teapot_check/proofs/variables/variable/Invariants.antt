use Rattle.std.proofs.Common.{◌≡◌, drop}
use Rattle.teapot_tree.specs.Scopes.{variable}
use Rattle.teapot_check.specs.Variables.{variables_of}
use Rattle.teapot_check.proofs.variables.variable.Given as goal

abbrev pub invariant-loop-v : goal.invariant-loop-v
invariant-loop-v l = variable (variables_of l.variables) l.name ≡ variable (variables_of (drop l.v-index l.variables)) l.name
