use Rattle.node_core.proofs.Stepping.{prints}
use Rattle.node_core.proofs.instruct.print.Goals as goal

pub returns : goal.returns
returns c = record {
  steps = λ s code w e.
      prints s code c.args.me c.args.state.now c.finish.new.self c.args.value c.conclude.new.state
      c.conclude.ensures c.finish.ensures.program c.finish.ensures.cpu w e;
}
