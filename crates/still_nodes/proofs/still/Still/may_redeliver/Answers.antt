use Rattle.std.proofs.Common.{◌<◌, rules}
use Rattle.still_nodes.proofs.Decided.{redeliver_decided}
use Rattle.still_nodes.proofs.still.Still.may_redeliver.Goals as goal

pub returns : goal.returns
returns c =
    let within : c.args.node < c.args.self.now.setup.shape.nodes = search rules in
    redeliver_decided c.args.self.now c.requires c.node.result.now _ c.args.node within c.node.ensures c.enabled_redeliver.ensures
