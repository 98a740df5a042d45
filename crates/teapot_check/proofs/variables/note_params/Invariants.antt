use Rattle.std.proofs.Common.{◌≡◌, ◌++◌, map, take}
use Rattle.teapot_tree.specs.Scopes.{of_param}
use Rattle.teapot_check.specs.Variables.{variables_of}
use Rattle.teapot_check.proofs.variables.note_params.Given as goal

abbrev pub invariant-loop-a : goal.invariant-loop-a
invariant-loop-a l = variables_of l.variables ≡ variables_of l.initial.variables ++ map of_param (take l.a-index l.params)
