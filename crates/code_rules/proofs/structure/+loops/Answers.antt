use Rattle.std.proofs.Common.{◌+◌}
use Rattle.code_rules.proofs.LoopLemmas.{few_enough, loops_more}
use Rattle.code_rules.proofs.structure.+loops.Goals as goal

pub loops-loop-s-preserved : goal.loops-loop-s-preserved
loops-loop-s-preserved t c =
    record {
      few = few_enough c.capped-sum.result (c.loop-s.sum + c.loops_in.result) c.capped-sum.ensures;
      same = loops_more c.args.stmts.now c.loop-s.s-index c.s-item.result c.loop-s.sum c.loops_in.result c.capped-sum.result
          c.loop-s-test.true c.s-item.is c.loop-s.invariant.same c.loops_in.ensures c.capped-sum.ensures;
    }
