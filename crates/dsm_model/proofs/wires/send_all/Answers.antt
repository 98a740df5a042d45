use Rattle.std.proofs.Common.{ℕ, List, ◌<◌, ◌-◌, ◌^◌, refl, ◌∙◌, subst}
use Rattle.std.proofs.lemmas.List.{take_all}
use Rattle.tw_base.specs.declared.message.Chan.{Chan}
use Rattle.tw_base.specs.declared.message.Message.{Message}
use Rattle.dsm_model.specs.Posts.{HasSent}
use Rattle.dsm_model.specs.Views.{nexts_of}
use Rattle.dsm_model.proofs.Posting.{one_more, place_for, room_for, send_from, sent_none}
use Rattle.dsm_model.proofs.wires.send_all.Goals as goal

pub loop-message-init : goal.loop-message-init
loop-message-init c = (sent_none c.args.outboxes.now c.requires.room, λ f t d. refl)

pub send-requires-clause-from : goal.send-requires-clause-from
send-requires-clause-from c = send_from c.args.outboxes.now c.loop-message.outboxes c.args.sends.now
    c.loop-message.message-index _ _ c.loop-message-test.true c.loop-message.invariant.0 c.message-item.is c.requires.from

pub send-requires-clause-place : goal.send-requires-clause-place
send-requires-clause-place c = place_for c.args.outboxes.now c.loop-message.outboxes c.args.sends.now
    c.loop-message.message-index _ _ c.loop-message-test.true c.loop-message.invariant.0 c.loop-message.invariant.1
    c.requires.places c.message-item.is

pub send-requires-clause-few : goal.send-requires-clause-few
send-requires-clause-few c =
    let all : (f t : ℕ) (d : Chan) → nexts_of c.loop-message.outboxes f t d < 2 ^ 64 - 1 =
    room_for c.args.outboxes.now c.loop-message.outboxes c.args.sends.now c.loop-message.message-index
    c.loop-message.invariant.0 c.loop-message-test.true c.requires.few in
    all _ _ _

pub loop-message-preserved : goal.loop-message-preserved
loop-message-preserved c = (
  one_more c.args.outboxes.now c.loop-message.outboxes c.send.new.outboxes c.args.sends.now c.loop-message.message-index _ _
      c.loop-message-test.true c.loop-message.invariant.0 c.message-item.is c.send.ensures.sent,
  λ f t d. c.send.ensures.rooms f t d ∙ c.loop-message.invariant.1 f t d,
)

pub returns : goal.returns
returns c = subst (λ (ms : List Message). HasSent c.args.outboxes.now c.loop-message.outboxes ms)
    (take_all c.loop-message.message-index c.args.sends.now c.loop-message-test.false) c.loop-message.invariant.0
