use Rattle.std.proofs.Common.{◌<◌, rules}
use Rattle.still_nodes.proofs.Decided.{instruct_decided}
use Rattle.still_nodes.proofs.still.Still.may_instruct.Goals as goal

pub returns : goal.returns
returns c =
    let within : c.args.node < c.args.self.now.setup.shape.nodes = search rules in
    instruct_decided c.args.self.now c.requires c.node.result.now _ c.args.node within c.node.ensures c.enabled_instr.ensures
