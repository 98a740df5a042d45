use Rattle.std.proofs.Common.{length}
use Rattle.dsm_model.proofs.Posting.{all_places, places_more, reserve_from, room_none, room_twice}
use Rattle.dsm_model.proofs.wires.reserve_all.Goals as goal

pub loop-message-init : goal.loop-message-init
loop-message-init c = (room_none c.args.outboxes.now c.requires.room, tt)

pub reserve-requires-clause-from : goal.reserve-requires-clause-from
reserve-requires-clause-from c = reserve_from c.args.outboxes.now c.loop-message.outboxes c.args.sends.now
    c.loop-message.message-index _ _ c.loop-message-test.true c.loop-message.invariant.0.same c.message-item.is c.requires.from

pub returns-in_err-reserve-clause-same : goal.returns-in_err-reserve-clause-same
returns-in_err-reserve-clause-same c = room_twice c.args.outboxes.now c.loop-message.outboxes c.reserve.new.outboxes
    c.loop-message.invariant.0 c.in_err-reserve.ensures.same

pub loop-message-preserved : goal.loop-message-preserved
loop-message-preserved c = (
  room_twice c.args.outboxes.now c.loop-message.outboxes c.reserve.new.outboxes c.loop-message.invariant.0
      c.in_ok-reserve.ensures.same,
  places_more c.loop-message.outboxes c.reserve.new.outboxes
      (length c.args.sends.now) c.loop-message.message-index c.args.sends.now _ _ c.loop-message-test.true
      c.loop-message.invariant.1 c.message-item.is c.in_ok-reserve.ensures.same c.in_ok-reserve.ensures.ok,
)

pub returns-clause-ok : goal.returns-clause-ok
returns-clause-ok c = all_places c.loop-message.outboxes c.args.sends.now c.loop-message.message-index
    c.loop-message-test.false c.loop-message.invariant.1
