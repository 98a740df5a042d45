-- What is proved of the shipped protocol's tree.
use Rattle.teapot_tree.specs.Rules.{IsAccepted}
use Rattle.teapot_tree.specs.declared.protocol.Protocol.{Protocol}
use Rattle.stache_tree.specs.Tree.{IsStache}

-- a protocol that is the shipped one but for line numbers is a tree of the grammar and breaks no rule at any line
abbrev pub StacheIsAccepted : Type 0
StacheIsAccepted = (p : Protocol) → IsStache p → IsAccepted p
