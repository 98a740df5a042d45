use Rattle.std.proofs.Common.{◌≡◌, ◌<◌, ◌≤◌, length, get_or, refl, sym, ◌∙◌, ap, arith}
use Rattle.std.proofs.lemmas.List.{get_or_default}
use Rattle.dsm_model.specs.declared.outbox.Outbox.{Outbox}
use Rattle.dsm_model.specs.Queues.{Held, nothing_held}
use Rattle.dsm_model.proofs.Posting.{on_ok_more, reserved, reserved_room}
use Rattle.dsm_model.proofs.outbox.Outbox.reserve.Goals as goal

pub returns-clause-same : goal.returns-clause-same
returns-clause-same c =
    let old : Outbox = c.args.self.now in
    let k = c.place.result in
    let front : Held = c.index_mut.result.now in
    let within : k < length old.queues.items = omega (arith, c.requires.queues, c.place.ensures.small) in
    let queue : get_or old.queues.items k nothing_held ≡ front = get_or_default old.queues.items k nothing_held front within
    ∙ sym c.index_mut.ensures.value in
    let more : (get_or old.queues.items k nothing_held).room ≤ c.reserve.new.self.room =
    omega (arith, c.reserve.ensures.more, ap (λ (q : Held). q.room) queue) in
    reserved old k c.reserve.new.self (record {
      queues = Rattle.std.specs.Vec.with_item old.queues k c.reserve.new.self;
      next = old.next;
    }) c.requires within
    (c.reserve.ensures.same ∙ ap (λ (q : Held). q.messages) (sym queue)) more refl refl

pub returns-clause-ok : goal.returns-clause-ok
returns-clause-ok c =
    let old : Outbox = c.args.self.now in
    let within : c.place.result < length old.queues.items = omega (arith, c.requires.queues, c.place.ensures.small) in
    on_ok_more c.reserve.result (reserved_room old.queues.items c.place.result c.args.to c.args.chan c.reserve.new.self
    c.args.count c.place.ensures.place within) c.reserve.ensures.ok
