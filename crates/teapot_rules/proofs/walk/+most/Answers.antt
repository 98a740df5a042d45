use Rattle.std.proofs.Common.{◌+◌}
use Rattle.teapot_rules.proofs.Stepping.{few_enough, most_more}
use Rattle.teapot_rules.proofs.walk.+most.Goals as goal

pub most-loop-s-preserved : goal.most-loop-s-preserved
most-loop-s-preserved t c =
    record {
      few = few_enough c.capped-sum.result (c.loop-s.sum + c.most_in.result) c.capped-sum.ensures;
      same = most_more c.args.stmts.now c.loop-s.s-index c.s-item.result c.loop-s.sum c.most_in.result c.capped-sum.result
          c.loop-s-test.true c.s-item.is c.loop-s.invariant.same c.most_in.ensures c.capped-sum.ensures;
    }
