use Rattle.std.proofs.Common.{◌<◌, ◌+◌, ◌*◌, sym, arith}
use Rattle.event_masks.proofs.Telling.{one_there, past_there, zero_there}
use Rattle.event_masks.proofs.masks.event_at.Goals as goal

pub returns-then-place-nodes : goal.returns-then-place-nodes
returns-then-place-nodes c = sym (past_there c.args.nodes c.args.node c.args.place c.if-place-nodes.true)

pub returns-then-place-eq0-2 : goal.returns-then-place-eq0-2
returns-then-place-eq0-2 c =
    let low : c.args.place < 2 + 2 * c.args.nodes = omega (arith, c.if-place-nodes.false) in
    sym (zero_there c.args.nodes c.args.node c.numbered-from.result c.args.place low c.if-place-eq0.false c.if-place-eq1.false
    c.numbered-from.ensures c.if-place-eq0-2.true)

pub returns : goal.returns
returns c =
    let low : c.args.place < 2 + 2 * c.args.nodes = omega (arith, c.if-place-nodes.false) in
    sym (one_there c.args.nodes c.args.node c.numbered-from.result c.args.place low c.if-place-eq0.false c.if-place-eq1.false
    c.numbered-from.ensures c.if-place-eq0-2.false)
