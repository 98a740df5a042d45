-- What is proved of the tree.
use Rattle.stache_d_tree.specs.Tree.{IsStacheD, stache_d}

-- the literal tree is Stache_D: its lines are 0
abbrev pub LiteralIsStacheD : Type 0
LiteralIsStacheD = IsStacheD stache_d
