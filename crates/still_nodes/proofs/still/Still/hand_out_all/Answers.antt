use Rattle.still_nodes.proofs.Handed.{passes_more}
use Rattle.still_nodes.proofs.Spreading.{others_more}
use Rattle.still_nodes.proofs.still.Still.hand_out_all.Goals as goal

pub loop-preserved : goal.loop-preserved
loop-preserved c = record {
  passes = passes_more c.args.self.now c.loop.self c.hand_out.new.self c.loop.invariant.passes c.hand_out.ensures.passes;
  others =
      others_more c.args.self.now c.loop.self c.hand_out.new.self c.args.node c.loop.invariant.others c.hand_out.ensures.others;
}
