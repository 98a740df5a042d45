use Rattle.tw_base.proofs.SetBits.{has-bits}
use Rattle.tw_base.proofs.node_set.NodeSet.has.Goals as goal

pub returns-clause-value : goal.returns-clause-value
returns-clause-value c = rw (c.get.ensures.value, ← c.self.view_is) (has-bits _ _ c.self.invariant c.get.ensures.range)
