use Rattle.std.proofs.Common.{◌≡◌, length, arith}
use Rattle.event_masks.proofs.Counting.{counted_passed, counted_picked}
use Rattle.event_masks.proofs.Telling.{none_picked}
use Rattle.event_masks.proofs.words.pick.Goals as goal

pub returns-then-more-count : goal.returns-then-more-count
returns-then-more-count c =
    counted_picked c.args.words.now c.args.counts.now c.loop-number.number c.numbered-node.result c.from-at.result c.args.k
    c.loop-number.more c.event_told.result c.requires.counts c.loop-number-test.true c.from-at.ensures c.numbered-node.ensures
    c.requires.small c.loop-number.invariant c.if-more-count.true c.event_told.ensures

pub loop-number-preserved : goal.loop-number-preserved
loop-number-preserved c =
    counted_passed c.args.words.now c.args.counts.now c.loop-number.number c.from-at.result c.args.k c.loop-number.more
    c.requires.counts c.loop-number-test.true c.from-at.ensures c.requires.small c.loop-number.invariant c.if-more-count.false

pub returns : goal.returns
returns c =
    let end : c.loop-number.number ≡ length c.args.words.now =
    omega (arith, c.loop-number-test.false, c.loop-number.auto.number-end) in
    none_picked c.args.words.now c.loop-number.number c.args.k c.loop-number.more end c.loop-number.invariant
