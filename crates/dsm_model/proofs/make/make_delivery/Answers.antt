use Rattle.std.proofs.Common.{◌≡◌, ◌<◌, List, Some, length, sym, subst, ◌∙◌, ap, arith}
use Rattle.std.specs.Prelude.{slice_get}
use Rattle.std.specs.Option.{option_copied}
use Rattle.tw_base.specs.declared.message.Message.{Message}
use Rattle.dsm_model.specs.Posts.{CanSend}
use Rattle.dsm_model.specs.declared.outbox.Outbox.{Outbox}
use Rattle.dsm_model.specs.declared.local.Local.{Local as Node}
use Rattle.dsm_model.specs.Views.{wires_of}
use Rattle.dsm_model.proofs.Keeping.{counted_taken, made_delivery, made_few, made_kept, made_senders, room_kept, room_same}
use Rattle.dsm_model.proofs.Keeping.{taken_after}
use Rattle.dsm_model.proofs.Posting.{element_at, on_err, places_taken}
use Rattle.dsm_model.proofs.make.make_delivery.Goals as goal

pub deliver-requires-clause-sound : goal.deliver-requires-clause-sound
deliver-requires-clause-sound c =
    let locals : List Node = c.args.locals.now in
    c.requires.kept.sound c.args.at _ (element_at locals c.from.result c.args.at c.index-locals-from.result
    (c.from.ensures ∙ c.get-2.ensures.value) (omega (arith, c.requires.enabled.0, c.requires.kept.nodes)))

pub send_all-requires-clause-from : goal.send_all-requires-clause-from
send_all-requires-clause-from c = made_senders c.args.setup.now c.args.locals.now c.args.outboxes.now c.take.new.outboxes
    c.args.at _ _ _ c.deliver.new.l c.in_ok-made.made c.items.result.now c.requires.kept c.in_ok-made.ensures.made
    c.items.ensures (c.take.ensures.size ∙ c.in_ok-made.ensures.same.same.size)

pub send_all-requires-clause-few : goal.send_all-requires-clause-few
send_all-requires-clause-few c = made_few c.args.setup.now c.args.locals.now c.args.outboxes.now c.take.new.outboxes c.args.at
    _ _ _ c.deliver.new.l c.in_ok-made.made c.items.result.now c.requires.kept c.in_ok-made.ensures.made c.items.ensures
    (λ f t d. omega (arith, c.in_ok-made.ensures.same.same.next f t d, c.take.ensures.next f t d))

pub send_all-requires-clause-places : goal.send_all-requires-clause-places
send_all-requires-clause-places c = subst (λ (ms : List Message). CanSend c.take.new.outboxes ms) (sym c.items.ensures)
    (places_taken c.deliver.new.outboxes c.take.new.outboxes c.args.from c.args.at c.args.chan c.take.result
    (length c.in_ok-made.made.sends) c.in_ok-made.made.sends c.take.ensures c.in_ok-made.ensures.ready)

pub take-requires-clause-from : goal.take-requires-clause-from
take-requires-clause-from c = omega (arith, c.in_ok-made.ensures.same.same.size, c.requires.kept.senders, c.requires.enabled.1)

pub returns-in_err-made-clause-kept : goal.returns-in_err-made-clause-kept
returns-in_err-made-clause-kept c =
    let locals : List Node = c.args.locals.now in
    let outboxes : List Outbox = c.args.outboxes.now in
    let within : c.args.at < length locals = omega (arith, c.requires.enabled.0, c.requires.kept.nodes) in
    room_kept c.args.setup.now locals outboxes c.deliver.new.outboxes c.args.at c.from.result c.index-locals-from.result
    c.deliver.new.l c.requires.kept (c.from.ensures ∙ c.get-2.ensures.value) within c.in_err-made.ensures.err
    c.in_err-made.ensures.same.same

pub returns-in_err-made-clause-err : goal.returns-in_err-made-clause-err
returns-in_err-made-clause-err c =
    let locals : List Node = c.args.locals.now in
    let outboxes : List Outbox = c.args.outboxes.now in
    let within : c.args.at < length locals = omega (arith, c.requires.enabled.0, c.requires.kept.nodes) in
    on_err c.from_residual.result (room_same c.args.setup.now locals outboxes c.deliver.new.outboxes c.args.at c.from.result
    c.index-locals-from.result c.deliver.new.l (c.from.ensures ∙ c.get-2.ensures.value) within c.in_err-made.ensures.err
    c.in_err-made.ensures.same.same)

pub returns-clause-kept : goal.returns-clause-kept
returns-clause-kept c =
    let locals : List Node = c.args.locals.now in
    let outboxes : List Outbox = c.args.outboxes.now in
    let at = element_at locals c.from.result c.args.at c.index-locals-from.result (c.from.ensures ∙ c.get-2.ensures.value)
    (omega (arith, c.requires.enabled.0, c.requires.kept.nodes)) in
    let took = taken_after outboxes c.deliver.new.outboxes c.take.new.outboxes c.args.from c.args.at c.args.chan c.take.result
    c.in_ok-made.ensures.same c.take.ensures in
    made_kept c.args.setup.now locals outboxes c.take.new.outboxes c.send_all.new.outboxes c.args.at c.from.result _ _ _
    c.deliver.new.l c.in_ok-made.made c.items.result.now c.requires.kept
    (c.from.ensures ∙ c.get-2.ensures.value) at c.in_ok-made.ensures.made took.size
    (counted_taken c.args.setup.now locals outboxes c.take.new.outboxes c.args.from c.args.at c.args.chan c.take.result took
    c.requires.kept.counted) c.items.ensures c.send_all.ensures

pub returns-clause-step : goal.returns-clause-step
returns-clause-step c =
    let locals : List Node = c.args.locals.now in
    let outboxes : List Outbox = c.args.outboxes.now in
    let at = element_at locals c.from.result c.args.at c.index-locals-from.result (c.from.ensures ∙ c.get-2.ensures.value)
    (omega (arith, c.requires.enabled.0, c.requires.kept.nodes)) in
    let took = taken_after outboxes c.deliver.new.outboxes c.take.new.outboxes c.args.from c.args.at c.args.chan c.take.result
    c.in_ok-made.ensures.same c.take.ensures in
    let m : Message = c.unwrap.result.now in
    let there : slice_get (wires_of outboxes c.args.from c.args.at c.args.chan) 0 ≡ Some m =
    ap (λ (ms : List Message). slice_get ms 0) (sym c.wire.ensures) ∙ sym c.get.ensures
    ∙ ap (λ o. option_copied o) c.unwrap.ensures in
    made_delivery c.args.setup.now locals outboxes c.take.new.outboxes c.send_all.new.outboxes c.args.at c.from.result
    c.args.from c.args.chan m c.take.result _ c.deliver.new.l c.in_ok-made.made c.items.result.now c.requires.kept
    (c.from.ensures ∙ c.get-2.ensures.value) at c.in_ok-made.ensures.made c.in_ok-made.ensures.act took there
    c.items.ensures c.send_all.ensures
