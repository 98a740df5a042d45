use Rattle.std.proofs.Common.{arith}
use Rattle.report_reader.proofs.Stretching.{numbered-ends, numbered-goes, numbered-stops}
use Rattle.report_reader.proofs.reading.numbered.Goals as goal

pub returns-then-not-is_event : goal.returns-then-not-is_event
returns-then-not-is_event c =
    numbered-stops c.args.events.now c.loop-number.number c.index-events-number.result c.items.result.now c.is_event.result _
    c.loop-number-test.true c.index-events-number.is c.items.ensures
    c.is_event.ensures c.if-not-is_event.true c.loop-number.invariant

pub loop-number-preserved : goal.loop-number-preserved
loop-number-preserved c =
    numbered-goes c.args.events.now c.loop-number.number c.index-events-number.result c.items.result.now c.is_event.result _
    c.loop-number-test.true c.index-events-number.is c.items.ensures
    c.is_event.ensures c.if-not-is_event.false c.loop-number.invariant

pub returns : goal.returns
returns c = numbered-ends c.args.events.now c.loop-number.number _ (omega arith) (omega arith) c.loop-number.invariant
