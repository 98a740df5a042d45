use Rattle.node_core.proofs.Stepping.{stores}
use Rattle.node_core.proofs.instruct.put.Goals as goal

pub returns : goal.returns
returns c = record {
  steps = λ s code w e.
      stores s code c.args.me c.args.state.now c.finish.new.self c.store.new.self c.args.address c.args.value c.conclude.new.state
      c.conclude.ensures c.finish.ensures.program c.finish.ensures.cpu c.requires.answered.tag c.store.ensures
      c.shape-shape.ensures.whole w e;
}
