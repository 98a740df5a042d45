use Rattle.std.proofs.Common.{◌≡◌, ◌++◌, take}
use Rattle.teapot_tree.specs.Scopes.{typed}
use Rattle.teapot_check.specs.Variables.{variables_of}
use Rattle.teapot_check.proofs.variables.note_args.Given as goal

abbrev pub invariant-loop-at : goal.invariant-loop-at
invariant-loop-at l = variables_of l.variables ≡ variables_of l.initial.variables ++ typed (take l.at l.args) l.types
