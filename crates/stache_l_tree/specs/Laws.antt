-- What is proved of the tree.
use Rattle.stache_l_tree.specs.Tree.{IsStacheL, stache_l}

-- the literal tree is Stache_L: its lines are 0
abbrev pub LiteralIsStacheL : Type 0
LiteralIsStacheL = IsStacheL stache_l
