use Rattle.tw_base.proofs.SetBits.{with-bits}
use Rattle.tw_base.proofs.node_set.NodeSet.with.Goals as goal

pub returns : goal.returns
returns c = rw (c.get.ensures.value, ← c.self.view_is) (with-bits _ _ c.self.invariant c.get.ensures.range)
