use Rattle.event_masks.proofs.Counting.{counts_more}
use Rattle.event_masks.proofs.words.counts_of.Goals as goal

pub loop-word-preserved : goal.loop-word-preserved
loop-word-preserved c =
    counts_more c.args.words.now c.loop-word.counts.items c.push.new.self.items c.loop-word.word-index c.ones_of.result
    c.loop-word-test.true c.loop-word.invariant c.ones_of.ensures.value c.ones_of.ensures.small c.in_ok-push.ensures.items
