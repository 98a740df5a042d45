-- What is proved of the tree of Stache_L.
use Rattle.teapot_tree.specs.Rules.{IsAccepted}
use Rattle.teapot_tree.specs.declared.protocol.Protocol.{Protocol}
use Rattle.stache_l_tree.specs.Tree.{IsStacheL}

-- a protocol that is Stache_L but for line numbers is a tree of the grammar and breaks no rule at any line
abbrev pub StacheLIsAccepted : Type 0
StacheLIsAccepted = (p : Protocol) → IsStacheL p → IsAccepted p
