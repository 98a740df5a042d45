use Rattle.node_core.proofs.Nodes.{waiting_node}
use Rattle.node_core.proofs.node.Node.out_pop.Goals as goal

pub invariant_of-self : goal.invariant_of-self
invariant_of-self c =
    let n = c.self.inside in
    let p = c.pop.ensures in
    waiting_node n.setup.now n.code.now n.me n.state c.pop.result c.pop.new.self p.popped p.posted p.room c.self.invariant
