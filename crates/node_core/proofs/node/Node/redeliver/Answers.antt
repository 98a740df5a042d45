use Rattle.std.proofs.Common.{◌≡◌, None, true, subst, sym}
use Rattle.tw_base.specs.declared.entry.Event.TheVariants as event
use Rattle.node_core.specs.States.{shown_of}
use Rattle.node_meaning.specs.Nodes.{Shown, test_of}
use Rattle.node_meaning.specs.Stands.{Makes}
use Rattle.node_core.proofs.node.Node.redeliver.Goals as goal

pub redeliver-requires-clause-node : goal.redeliver-requires-clause-node
redeliver-requires-clause-node c = c.self.invariant

pub redeliver-requires-clause-ready : goal.redeliver-requires-clause-ready
redeliver-requires-clause-ready c = subst (λ (n : Shown). n.ready ≡ true) (sym c.self.view_is) c.requires.ready

pub redeliver-requires-clause-enabled : goal.redeliver-requires-clause-enabled
redeliver-requires-clause-enabled c = subst (λ (n : Shown). test_of n (event.Redeliver n.me) ≡ true)
    (sym c.self.view_is) c.requires.enabled

pub invariant_of-self : goal.invariant_of-self
invariant_of-self c = c.redeliver.ensures.node

pub returns : goal.returns
returns c =
    let n = c.self.inside in
    subst (λ (o : Shown). Makes o (shown_of n.setup.now n.code.now n.me c.redeliver.new.state) None (event.Redeliver o.me))
    c.self.view_is
    c.redeliver.ensures.makes
