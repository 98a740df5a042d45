use Rattle.node_seats.proofs.Turning.{pushed_more}
use Rattle.node_seats.proofs.seat.Seat.flush.Goals as goal

pub returns-in_err-push_one-clause-pushed : goal.returns-in_err-push_one-clause-pushed
returns-in_err-push_one-clause-pushed g c = pushed_more c.args.self.now c.out.self c.push_one.new.self c.out.invariant
    c.push_one.ensures.pushed

pub out-preserved : goal.out-preserved
out-preserved g c = pushed_more c.args.self.now c.out.self c.push_one.new.self c.out.invariant c.push_one.ensures.pushed
