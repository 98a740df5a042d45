use Rattle.tw_base.proofs.SetBits.{without-bits}
use Rattle.tw_base.proofs.node_set.NodeSet.without.Goals as goal

pub returns : goal.returns
returns c = rw (c.get.ensures.value, ← c.self.view_is) (without-bits _ _ c.self.invariant c.get.ensures.range)
