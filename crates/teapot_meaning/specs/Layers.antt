-- One level of a statement, as `out-Do` opens it.
use Rattle.teapot_tree.specs.declared.stmt.Do.{Do, out-Do}
use Rattle.teapot_tree.specs.declared.stmt.Do.TheOpen.{Do-F}
use Rattle.teapot_tree.specs.declared.stmt.Stmt.{Stmt}

abbrev pub Layer : Type 0
Layer = Do-F Do Stmt

-- what a statement does
abbrev pub what_of : Stmt → Layer
what_of s = out-Do s.what
