use Rattle.std.proofs.Common.{◌≡◌, ◌<◌, true, subst, sym}
use Rattle.tw_base.specs.declared.entry.Event.TheVariants as event
use Rattle.node_core.specs.States.{shown_of}
use Rattle.node_meaning.specs.Nodes.{Shown, front_at, test_of}
use Rattle.node_meaning.specs.Stands.{Makes}
use Rattle.node_core.proofs.node.Node.deliver.Goals as goal

pub deliver-requires-clause-node : goal.deliver-requires-clause-node
deliver-requires-clause-node c = c.self.invariant

pub deliver-requires-clause-ready : goal.deliver-requires-clause-ready
deliver-requires-clause-ready c = subst (λ (n : Shown). n.ready ≡ true) (sym c.self.view_is) c.requires.ready

pub deliver-requires-clause-enabled : goal.deliver-requires-clause-enabled
deliver-requires-clause-enabled c = subst (λ (n : Shown). test_of n (event.Deliver n.me c.args.from c.args.chan) ≡ true)
    (sym c.self.view_is) c.requires.enabled

pub invariant_of-self : goal.invariant_of-self
invariant_of-self c = c.deliver.ensures.node

pub returns : goal.returns
returns c =
    let n = c.self.inside in
    subst (λ (o : Shown). Makes o (shown_of n.setup.now n.code.now n.me c.deliver.new.state)
    (front_at o c.args.from c.args.chan) (event.Deliver o.me c.args.from c.args.chan)) c.self.view_is
    c.deliver.ensures.makes

pub deliver-requires-clause-from : goal.deliver-requires-clause-from
deliver-requires-clause-from c = subst (λ (n : Shown). c.args.from < n.setup.shape.nodes) (sym c.self.view_is) c.requires.from
