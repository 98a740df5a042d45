use Rattle.std.proofs.Common.{refl, ◌∷◌, [], arith, ap, length, length-append}
use Rattle.dsm_runs.specs.Messages.{place}
use Rattle.dsm_model.proofs.Starting.{none_empty, push_empty}
use Rattle.dsm_model.proofs.outbox.Outbox.new.Goals as goal

pub loop-made-init : goal.loop-made-init
loop-made-init c = rw c.new-queues.ensures.items (refl, none_empty)

pub loop-made-preserved : goal.loop-made-preserved
loop-made-preserved c = (
  omega (
    arith,
    ap length c.in_ok-push.ensures.items,
    length-append c.loop-made.queues.items (c.new.result ∷ []),
    c.loop-made.invariant.0,
  ),
  rw c.in_ok-push.ensures.items (push_empty c.loop-made.queues.items c.new.result c.loop-made.invariant.1 c.new.ensures),
)

pub returns-clause-empty : goal.returns-clause-empty
returns-clause-empty c = λ t d. c.loop-made.invariant.1 (place t d)
