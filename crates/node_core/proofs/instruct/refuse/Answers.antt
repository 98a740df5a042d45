use Rattle.std.proofs.Common.{◌*◌, ◌<◌, subst}
use Rattle.tw_base.specs.Shape.{Sizes}
use Rattle.dsm_runs.specs.Setups.{asked}
use Rattle.node_core.proofs.Stepping.{refused_as}
use Rattle.node_core.proofs.instruct.refuse.Goals as goal

pub block_of-block-requires : goal.block_of-block-requires
block_of-block-requires c = subst (λ (z : Sizes). c.args.address < z.words * z.blocks) c.requires.work.node.well.shape
    c.requires.refused.good

pub fault-requires-clause-refused : goal.fault-requires-clause-refused
fault-requires-clause-refused c =
    let s = c.args.setup.now in
    let x = c.args.state.now in
    refused_as s c.args.code.now c.args.me x (asked s c.args.me x.processor.cpu) c.args.store c.args.address
    c.block_of-block.result
    c.requires.work c.requires.access c.requires.refused c.block_of-block.ensures.block
