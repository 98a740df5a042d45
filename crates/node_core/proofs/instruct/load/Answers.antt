use Rattle.node_core.proofs.Stepping.{loads_any}
use Rattle.node_core.proofs.instruct.load.Goals as goal

pub returns : goal.returns
returns c = λ value. record {
  steps = λ s code w e.
      loads_any s code c.args.me c.args.state.now c.finish.new.self c.args.address c.load-value.result c.conclude.new.state
      c.conclude.ensures c.finish.ensures.program c.finish.ensures.cpu c.requires.answered.tag c.load-value.ensures w value e;
}
