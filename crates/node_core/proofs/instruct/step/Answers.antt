use Rattle.node_core.proofs.Stepping.{steps}
use Rattle.node_core.proofs.instruct.step.Goals as goal

pub returns : goal.returns
returns c = record {
  steps = λ s code w e.
      steps s code c.args.me c.args.state.now c.finish.new.self c.conclude.new.state
      c.conclude.ensures c.finish.ensures.program c.finish.ensures.cpu w e;
}
