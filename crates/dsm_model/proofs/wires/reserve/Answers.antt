use Rattle.std.proofs.Common.{◌≡◌, List, get_or, set, sym, ◌∙◌, subst}
use Rattle.dsm_model.specs.declared.outbox.Outbox.{Outbox}
use Rattle.dsm_model.specs.Posts.{HaveMadeRoom}
use Rattle.dsm_model.proofs.Posting.{element_at, enough_set, on_ok_more, room_made}
use Rattle.dsm_model.proofs.wires.reserve.Goals as goal

pub returns-clause-same : goal.returns-clause-same
returns-clause-same c =
    let outboxes : List Outbox = c.args.outboxes.now in
    let m = c.args.message.now in
    let old : Outbox = get_or outboxes c.from.result c.index-outboxes-from.result in
    let at : c.from.result ≡ m.from = c.from.ensures ∙ c.get.ensures.value in
    subst (λ k. HaveMadeRoom outboxes (set outboxes k c.reserve.new.self)) (sym at)
    (room_made outboxes m.from old c.reserve.new.self (element_at outboxes c.from.result m.from c.index-outboxes-from.result at
    c.requires.from) c.requires.from c.requires.room c.reserve.ensures.same)

pub returns-clause-ok : goal.returns-clause-ok
returns-clause-ok c =
    let outboxes : List Outbox = c.args.outboxes.now in
    let m = c.args.message.now in
    let at : c.from.result ≡ m.from = c.from.ensures ∙ c.get.ensures.value in
    on_ok_more c.reserve.result (enough_set outboxes m.from c.from.result m.to m.chan c.reserve.new.self c.args.count at
    c.requires.from) c.reserve.ensures.ok
