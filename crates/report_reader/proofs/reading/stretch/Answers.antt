use Rattle.std.proofs.Common.{arith}
use Rattle.report_reader.proofs.Stretching.{stretch-ends, stretch-goes, stretch-stops}
use Rattle.report_reader.proofs.reading.stretch.Goals as goal

pub returns-then-not-is_of-clause-value : goal.returns-then-not-is_of-clause-value
returns-then-not-is_of-clause-value c =
    stretch-stops _ _ c.args.lines.now c.loop-before.before c.index-lines-before.result c.items.result.now c.is_of.result _
    c.loop-before-test.true c.index-lines-before.is c.items.ensures
    c.is_of.ensures c.if-not-is_of.true c.loop-before.invariant

pub loop-before-preserved : goal.loop-before-preserved
loop-before-preserved c =
    stretch-goes _ _ c.args.lines.now c.loop-before.before c.index-lines-before.result c.items.result.now c.is_of.result _
    c.loop-before-test.true c.index-lines-before.is c.items.ensures
    c.is_of.ensures c.if-not-is_of.false c.loop-before.invariant

pub returns-clause-value : goal.returns-clause-value
returns-clause-value c = stretch-ends _ _ c.args.lines.now c.loop-before.before _ (omega arith)
    (omega arith) c.loop-before.invariant
