use Rattle.still_nodes.specs.Telling.{AreWordsOf}
use Rattle.still_nodes.proofs.Wording.{one_word_more}
use Rattle.std.proofs.Common.{◌+◌, subst, sym}
use Rattle.still_nodes.proofs.telling.words_of.Goals as goal

pub loop-node-preserved : goal.loop-node-preserved
loop-node-preserved c =
    subst (λ ws. AreWordsOf c.args.nodes.now ws (c.loop-node.node-index + 1)) (sym c.in_ok-push.ensures.items)
    (one_word_more c.args.nodes.now c.loop-node.words.items c.loop-node.node-index c.node-item.result c.tests.result
    c.loop-node.invariant c.loop-node-test.true c.node-item.is
    (c.tests.ensures.tests, c.tests.ensures.small))
