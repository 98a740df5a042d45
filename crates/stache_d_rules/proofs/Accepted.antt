-- A protocol that is Stache_D but for line numbers is accepted.
use Rattle.stache_d_tree.specs.Tree.{stache_d}
use Rattle.stache_rules.proofs.Accepted.{accepted-as}
use Rattle.stache_d_rules.specs.Laws.{StacheDIsAccepted}
use Rattle.stache_d_rules.proofs.Doors.{told_d, told_d-is}
use Rattle.stache_d_rules.proofs.Given.{tree-is}
use Rattle.stache_d_rules.proofs.Literal.{no-lines}

pub accepted : StacheDIsAccepted
accepted p is = accepted-as stache_d told_d told_d-is tree-is no-lines p is
