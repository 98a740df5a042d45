-- The protocols that are shipped.
use Rattle.teapot_tree.specs.declared.protocol.Protocol.{Protocol}
use Rattle.stache_tree.specs.Tree.{IsStache}
use Rattle.stache_d_tree.specs.Tree.{IsStacheD}
use Rattle.stache_l_tree.specs.Tree.{IsStacheL}

-- a protocol that is shipped, line numbers aside: Stache, Stache_D or Stache_L
pub data IsShipped (p : Protocol) : Type 0 where
  as_stache : IsStache p → IsShipped p
  as_stache_d : IsStacheD p → IsShipped p
  as_stache_l : IsStacheL p → IsShipped p
