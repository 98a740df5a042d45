use Rattle.teapot_rules.proofs.Placing.{placed_more}
use Rattle.teapot_rules.proofs.places.Names.new.Goals as goal

pub loop-at-preserved : goal.loop-at-preserved
loop-at-preserved c = λ q. placed_more c.args.names.now c.loop-at.at c.index-names-at.result q _ _ c.loop-at-test.true
    c.index-names-at.is (c.loop-at.invariant q) (c.in_ok-note.ensures q)
