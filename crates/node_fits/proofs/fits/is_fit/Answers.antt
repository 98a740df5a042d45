use Rattle.std.proofs.Common.{◌∙◌}
use Rattle.node_fits.proofs.Fitting.{decides}
use Rattle.node_fits.proofs.fits.is_fit.Goals as goal

pub returns : goal.returns
returns c =
    decides c.args.setup.now c.args.me c.args.m.now c.shape-shape.result c.protocol-else-not-is_placed.result.now
    c.words.result c.nodes.result c.from.result c.are_within.result
    c.shape-shape.ensures.value (c.protocol-else-not-is_placed.ensures.value
    ∙ c.protocol.ensures.value) c.words.ensures.value c.nodes.ensures.value c.from.ensures
    (c.is_placed.ensures.0 c.if-not-is_placed.false) (c.is_named_message.ensures.0 c.if-not-is_named_message.false)
    c.are_within.ensures
