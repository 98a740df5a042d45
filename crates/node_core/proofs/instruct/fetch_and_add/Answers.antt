use Rattle.std.proofs.Common.{refl}
use Rattle.node_core.proofs.Stepping.{adds}
use Rattle.node_core.proofs.instruct.fetch_and_add.Goals as goal

pub returns : goal.returns
returns c = record {
  steps = λ s code w e.
      adds s code c.args.me c.args.state.now c.finish.new.self c.store.new.self c.args.address c.peek-value.result c.args.added
      _ c.conclude.new.state c.conclude.ensures c.finish.ensures.program c.finish.ensures.cpu
      c.requires.answered.tag c.peek-value.ensures.value refl c.store.ensures c.shape-shape.ensures.whole w e;
}
