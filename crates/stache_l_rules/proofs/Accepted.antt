-- A protocol that is Stache_L but for line numbers is accepted.
use Rattle.stache_l_tree.specs.Tree.{stache_l}
use Rattle.stache_rules.proofs.Accepted.{accepted-as}
use Rattle.stache_l_rules.specs.Laws.{StacheLIsAccepted}
use Rattle.stache_l_rules.proofs.Doors.{told_l, told_l-is}
use Rattle.stache_l_rules.proofs.Given.{tree-is}
use Rattle.stache_l_rules.proofs.Literal.{no-lines}

pub accepted : StacheLIsAccepted
accepted p is = accepted-as stache_l told_l told_l-is tree-is no-lines p is
