use Rattle.std.proofs.Common.{◌≡◌, subst}
use Rattle.tw_base.specs.declared.entry.Event.TheVariants as event
use Rattle.node_meaning.specs.Nodes.{Shown, test_of}
use Rattle.node_core.proofs.node.Node.enabled_deliver.Goals as goal

pub returns : goal.returns
returns c = subst (λ (n : Shown). c.may_deliver.result ≡ test_of n (event.Deliver n.me c.args.from c.args.chan)) c.self.view_is
    c.may_deliver.ensures
