-- The literal tree has no lines.
use Rattle.stache_tree.proofs.Bares.{code-bare}
use Rattle.stache_d_tree.specs.Laws.{LiteralIsStacheD}
use Rattle.stache_d_tree.specs.Tree.{states_d}

pub literal : LiteralIsStacheD
unfolding states_d
literal = simp code-bare
