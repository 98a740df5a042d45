use Rattle.std.proofs.Common.{◌<◌, rules}
use Rattle.still_nodes.proofs.Decided.{deliver_decided}
use Rattle.still_nodes.proofs.still.Still.may_deliver.Goals as goal

pub returns : goal.returns
returns c =
    let s = c.args.self.now in
    let at : c.args.at < s.setup.shape.nodes = search rules in
    let from : c.args.from < s.setup.shape.nodes = search rules in
    deliver_decided s c.requires c.node.result.now _ c.args.at c.args.from c.args.chan at from c.node.ensures
    c.enabled_deliver.ensures
