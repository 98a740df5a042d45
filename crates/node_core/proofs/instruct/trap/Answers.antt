use Rattle.node_core.proofs.Stepping.{traps}
use Rattle.node_core.proofs.instruct.trap.Goals as goal

pub returns : goal.returns
returns c = record {
  steps = λ s code w e.
      traps s code c.args.me c.args.state.now c.args.why c.conclude.new.state c.conclude.ensures w e;
}
