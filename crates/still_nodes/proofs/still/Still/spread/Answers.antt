use Rattle.still_nodes.proofs.Handed.{passes_more}
use Rattle.still_nodes.proofs.Spreading.{others_more}
use Rattle.still_nodes.proofs.still.Still.spread.Goals as goal

pub loop-preserved : goal.loop-preserved
loop-preserved c = record {
  told = c.hand_one.ensures.told;
  passes = passes_more c.args.self.now c.loop.self c.hand_one.new.self c.loop.invariant.passes c.hand_one.ensures.passes;
  others =
      others_more c.args.self.now c.loop.self c.hand_one.new.self c.args.node c.loop.invariant.others c.hand_one.ensures.others;
}

pub returns-clause-passes : goal.returns-clause-passes
returns-clause-passes c =
    passes_more c.args.self.now c.loop.self c.hand_one.new.self c.loop.invariant.passes c.hand_one.ensures.passes
