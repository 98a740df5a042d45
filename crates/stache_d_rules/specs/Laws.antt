-- What is proved of the tree of Stache_D.
use Rattle.teapot_tree.specs.Rules.{IsAccepted}
use Rattle.teapot_tree.specs.declared.protocol.Protocol.{Protocol}
use Rattle.stache_d_tree.specs.Tree.{IsStacheD}

-- a protocol that is Stache_D but for line numbers is a tree of the grammar and breaks no rule at any line
abbrev pub StacheDIsAccepted : Type 0
StacheDIsAccepted = (p : Protocol) → IsStacheD p → IsAccepted p
