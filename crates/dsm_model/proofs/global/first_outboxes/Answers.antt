use Rattle.std.proofs.Common.{◌∷◌, [], ap, length, length-append, refl, arith}
use Rattle.dsm_model.proofs.Starting.{no_outboxes, room_push, wires_push, nexts_push}
use Rattle.dsm_model.proofs.global.first_outboxes.Goals as goal

pub loop-made-init : goal.loop-made-init
loop-made-init c = record {
  count = ap length c.new-outboxes.ensures.items;
  room = rw c.new-outboxes.ensures.items no_outboxes;
  empty = rw c.new-outboxes.ensures.items (λ f t d. refl);
  next = rw c.new-outboxes.ensures.items (λ f t d. refl);
}

pub loop-made-preserved : goal.loop-made-preserved
loop-made-preserved c =
    let outboxes = c.loop-made.outboxes.items in
    let outbox = c.in_ok-new.field-0 in
    record {
      count = omega (
        arith,
        ap length c.in_ok-push.ensures.items,
        length-append outboxes (outbox ∷ []),
        c.loop-made.invariant.count,
      );
      room = rw c.in_ok-push.ensures.items (room_push outboxes outbox c.loop-made.invariant.room c.in_ok-new.ensures.room);
      empty = rw c.in_ok-push.ensures.items (wires_push outboxes outbox c.loop-made.invariant.empty c.in_ok-new.ensures.empty);
      next = rw c.in_ok-push.ensures.items (nexts_push outboxes outbox c.loop-made.invariant.next c.in_ok-new.ensures.first);
    }
