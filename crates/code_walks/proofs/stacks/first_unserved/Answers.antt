use Rattle.std.proofs.Common.{◌≡◌, true, arith, rules}
use Rattle.code_walks.specs.Stacks.{is_unserved}
use Rattle.code_walks.proofs.Depths.{depth_next, depth_small, served_here}
use Rattle.code_walks.proofs.Leasts.{none_more}
use Rattle.code_walks.proofs.stacks.first_unserved.Goals as goal

pub loop-at-preserved : goal.loop-at-preserved
loop-at-preserved c =
    let p = c.args.p.now in
    let code = c.args.code.now in
    let part = c.args.part in
    let at = c.loop-at.at in
    let small = depth_small p c.op_at.result c.loop-at.depth in
    let served : c.is_served.result ≡ true = search rules in
    record {
      depth = depth_next p code part.door.at at c.loop-at.depth c.depth_after-depth.result c.op_at.result c.loop-at.auto.at
          c.op_at.ensures c.loop-at.invariant.depth c.depth_after-depth.ensures;
      small = omega (arith, small, c.depth_after-depth.ensures, c.loop-at.auto.at);
      none = none_more part.door.at at (λ k. is_unserved p code part k ≡ true) c.loop-at.invariant.none
          (served_here p code part at c.loop-at.depth c.op_at.result c.op_at.ensures c.loop-at.invariant.depth (cc));
    }
