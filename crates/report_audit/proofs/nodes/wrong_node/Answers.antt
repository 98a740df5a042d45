use Rattle.std.proofs.Common.{arith}
use Rattle.report_audit.proofs.Seeking.{node-ends, node-goes, node-stops}
use Rattle.report_audit.proofs.nodes.wrong_node.Goals as goal

pub returns-then-not-is_right : goal.returns-then-not-is_right
returns-then-not-is_right c =
    node-stops c.args.events.now c.args.flat.now c.args.lines.now c.loop-line.line-index c.line-item.result c.items.result.now
    c.is_right.result _ c.loop-line-test.true c.line-item.is
    c.items.ensures c.is_right.ensures c.if-not-is_right.true c.loop-line.invariant

pub loop-line-preserved : goal.loop-line-preserved
loop-line-preserved c =
    node-goes c.args.events.now c.args.flat.now c.args.lines.now c.loop-line.line-index c.line-item.result c.items.result.now
    c.is_right.result _ c.loop-line-test.true c.line-item.is
    c.items.ensures c.is_right.ensures c.if-not-is_right.false c.loop-line.invariant

pub returns : goal.returns
returns c = node-ends c.args.events.now c.args.flat.now c.args.lines.now c.loop-line.line-index _
    (omega arith) c.loop-line.invariant
