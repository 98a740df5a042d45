use Rattle.std.proofs.Common.{◌≡◌, None, true, subst, sym}
use Rattle.tw_base.specs.declared.entry.Event.TheVariants as event
use Rattle.node_core.specs.States.{shown_of}
use Rattle.node_meaning.specs.Nodes.{Shown, test_of}
use Rattle.node_meaning.specs.Stands.{Makes}
use Rattle.node_core.proofs.node.Node.instr.Goals as goal

pub instruct-requires-clause-work : goal.instruct-requires-clause-work
instruct-requires-clause-work c = record {
  node = c.self.invariant;
  may = subst (λ (n : Shown). test_of n (event.Instr n.me) ≡ true) (sym c.self.view_is) c.requires.enabled;
}

pub instruct-requires-clause-ready : goal.instruct-requires-clause-ready
instruct-requires-clause-ready c = subst (λ (n : Shown). n.ready ≡ true) (sym c.self.view_is) c.requires.ready

pub invariant_of-self : goal.invariant_of-self
invariant_of-self c = c.instruct.ensures.node

pub returns : goal.returns
returns c =
    let n = c.self.inside in
    subst (λ (o : Shown). Makes o (shown_of n.setup.now n.code.now n.me c.instruct.new.state) None (event.Instr o.me))
    c.self.view_is
    c.instruct.ensures.makes
