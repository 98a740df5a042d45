use Rattle.node_core.proofs.Stepping.{halts}
use Rattle.node_core.proofs.instruct.halt.Goals as goal

pub returns : goal.returns
returns c = record {
  steps = λ s code w e.
      halts s code c.args.me c.args.state.now c.conclude.new.state c.conclude.ensures w e;
}
