use Rattle.tw_base.proofs.SetBits.{count-bits}
use Rattle.tw_base.proofs.node_set.NodeSet.count.Goals as goal

pub returns-clause-value : goal.returns-clause-value
returns-clause-value c = rw (← c.self.view_is) (count-bits _ c.self.invariant)
