use Rattle.node_core.proofs.Nodes.{padded_is}
use Rattle.node_core.proofs.start.padded.Goals as goal

pub returns : goal.returns
returns c = padded_is c.args.values.now c.copy_from_slice.new.self c.requires c.copy_from_slice.ensures.after
