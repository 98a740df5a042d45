-- The literal tree has no lines.
use Rattle.stache_tree.proofs.Bares.{code-bare}
use Rattle.stache_l_tree.specs.Laws.{LiteralIsStacheL}
use Rattle.stache_l_tree.specs.Tree.{states_l}

pub literal : LiteralIsStacheL
unfolding states_l
literal = simp code-bare
