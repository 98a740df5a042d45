use Rattle.std.proofs.Common.{List, [], ◌<◌, length, sym, subst, ◌∙◌, arith}
use Rattle.tw_base.specs.declared.message.Message.{Message}
use Rattle.dsm_model.specs.Posts.{CanSend}
use Rattle.dsm_model.specs.declared.local.Local.{Local as Node}
use Rattle.dsm_model.specs.declared.outbox.Outbox.{Outbox}
use Rattle.dsm_model.proofs.Keeping.{counted_room, made_few, made_kept, made_redelivery, made_senders, room_kept, room_same}
use Rattle.dsm_model.proofs.Posting.{element_at, on_err, sent_more}
use Rattle.dsm_model.proofs.make.make_redelivery.Goals as goal

pub redeliver-requires-clause-sound : goal.redeliver-requires-clause-sound
redeliver-requires-clause-sound c =
    let locals : List Node = c.args.locals.now in
    c.requires.kept.sound c.args.node _ (element_at locals c.from.result c.args.node c.index-locals-from.result
    (c.from.ensures ∙ c.get.ensures.value) (omega (arith, c.requires.enabled.0, c.requires.kept.nodes)))

pub send_all-requires-clause-from : goal.send_all-requires-clause-from
send_all-requires-clause-from c = made_senders c.args.setup.now c.args.locals.now c.args.outboxes.now c.redeliver.new.outboxes
    c.args.node _ _ _ c.redeliver.new.l c.in_ok-made.made c.items.result.now c.requires.kept c.in_ok-made.ensures.made
    c.items.ensures c.in_ok-made.ensures.same.same.size

pub send_all-requires-clause-few : goal.send_all-requires-clause-few
send_all-requires-clause-few c = made_few c.args.setup.now c.args.locals.now c.args.outboxes.now c.redeliver.new.outboxes
    c.args.node _ _ _ c.redeliver.new.l c.in_ok-made.made c.items.result.now c.requires.kept c.in_ok-made.ensures.made
    c.items.ensures
    (λ f t d. omega (arith, c.in_ok-made.ensures.same.same.next f t d))

pub send_all-requires-clause-places : goal.send_all-requires-clause-places
send_all-requires-clause-places c = subst (λ (ms : List Message). CanSend c.redeliver.new.outboxes ms)
    (sym c.items.ensures) c.in_ok-made.ensures.ready

pub returns-in_err-made-clause-kept : goal.returns-in_err-made-clause-kept
returns-in_err-made-clause-kept c =
    let locals : List Node = c.args.locals.now in
    let within : c.args.node < length locals = omega (arith, c.requires.enabled.0, c.requires.kept.nodes) in
    room_kept c.args.setup.now locals c.args.outboxes.now c.redeliver.new.outboxes c.args.node c.from.result
    c.index-locals-from.result c.redeliver.new.l c.requires.kept
    (c.from.ensures ∙ c.get.ensures.value) within c.in_err-made.ensures.err c.in_err-made.ensures.same.same

pub returns-in_err-made-clause-err : goal.returns-in_err-made-clause-err
returns-in_err-made-clause-err c =
    let locals : List Node = c.args.locals.now in
    let within : c.args.node < length locals = omega (arith, c.requires.enabled.0, c.requires.kept.nodes) in
    on_err c.from_residual.result (room_same c.args.setup.now locals c.args.outboxes.now c.redeliver.new.outboxes c.args.node
    c.from.result c.index-locals-from.result c.redeliver.new.l
    (c.from.ensures ∙ c.get.ensures.value) within c.in_err-made.ensures.err c.in_err-made.ensures.same.same)

pub returns-clause-kept : goal.returns-clause-kept
returns-clause-kept c =
    let locals : List Node = c.args.locals.now in
    let outboxes : List Outbox = c.args.outboxes.now in
    let at = element_at locals c.from.result c.args.node c.index-locals-from.result (c.from.ensures ∙ c.get.ensures.value)
    (omega (arith, c.requires.enabled.0, c.requires.kept.nodes)) in
    made_kept c.args.setup.now locals outboxes c.redeliver.new.outboxes c.send_all.new.outboxes c.args.node c.from.result _ _ _
    c.redeliver.new.l c.in_ok-made.made c.items.result.now c.requires.kept
    (c.from.ensures ∙ c.get.ensures.value) at c.in_ok-made.ensures.made c.in_ok-made.ensures.same.same.size
    (counted_room c.args.setup.now locals outboxes c.redeliver.new.outboxes c.in_ok-made.ensures.same.same
    c.requires.kept.counted) c.items.ensures c.send_all.ensures

pub returns-clause-step : goal.returns-clause-step
returns-clause-step c =
    let locals : List Node = c.args.locals.now in
    let outboxes : List Outbox = c.args.outboxes.now in
    let at = element_at locals c.from.result c.args.node c.index-locals-from.result (c.from.ensures ∙ c.get.ensures.value)
    (omega (arith, c.requires.enabled.0, c.requires.kept.nodes)) in
    made_redelivery c.args.setup.now locals outboxes c.send_all.new.outboxes c.args.node c.from.result _ c.redeliver.new.l
    c.in_ok-made.made c.items.result.now c.requires.kept
    (c.from.ensures ∙ c.get.ensures.value) at c.in_ok-made.ensures.made c.items.ensures
    (sent_more outboxes c.redeliver.new.outboxes c.send_all.new.outboxes [] c.items.result.now c.in_ok-made.ensures.same.same
    c.send_all.ensures)
