use Rattle.std.proofs.Common.{◌+◌, List, arith, sym, subst}
use Rattle.deferred_queues.specs.Queues.{AreEmpty, BlockQueue}
use Rattle.deferred_queues.proofs.Calling.{one_empty}
use Rattle.deferred_queues.proofs.deferred.empty_queues.Goals as goal

pub loop-init : goal.loop-init
loop-init c = subst (λ (qs : List BlockQueue). AreEmpty 0 qs) (sym c.new-queues.ensures.items) (omega arith, tt)

pub loop-preserved : goal.loop-preserved
loop-preserved c =
    subst (λ (qs : List BlockQueue). AreEmpty (c.loop.counter + 1) qs) (sym c.in_ok-push.ensures.items)
    (one_empty c.loop.counter c.loop.queues.items c.in_ok-new.field-0 c.loop.invariant c.in_ok-new.ensures)

pub returns : goal.returns
returns c = (omega (arith, c.loop.invariant.0, c.loop-test.false, c.loop.auto.counter-end), c.loop.invariant.1)
