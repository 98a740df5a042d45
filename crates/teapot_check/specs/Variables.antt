-- The variables of a handler as a table.
use Rattle.std.specs.Prelude.{List, map}
use Rattle.teapot_tree.specs.Scopes.{Variable}
use Rattle.teapot_check.specs.declared.noted.Noted.{Noted}

-- without its mark
abbrev pub variable_of : Noted → Variable
variable_of v = record { name = v.name.now; ty = v.ty }

abbrev pub variables_of : List Noted → List Variable
variables_of vs = map variable_of vs
