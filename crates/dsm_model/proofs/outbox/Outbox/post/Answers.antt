use Rattle.std.proofs.Common.{refl, ◌≡◌, ◌++◌, ◌∷◌, [], ◌+◌, length, get_or, set, sym, ◌∙◌, ap, arith}
use Rattle.std.proofs.lemmas.List.{get_or_default}
use Rattle.tw_base.specs.declared.message.Message.{Message}
use Rattle.dsm_model.specs.declared.outbox.Outbox.{Outbox}
use Rattle.dsm_model.specs.Queues.{Held, nothing_held}
use Rattle.dsm_runs.specs.Messages.{place}
use Rattle.dsm_model.proofs.Posting.{posted_one, same_room}
use Rattle.dsm_model.proofs.outbox.Outbox.post.Goals as goal

pub push-requires : goal.push-requires
push-requires c =
    let old : Outbox = c.args.self.now in
    let k = c.place-at.result in
    let front : Held = c.index_mut.result.now in
    let queue : get_or old.queues.items k nothing_held ≡ front =
    get_or_default old.queues.items k nothing_held front (omega (arith, c.requires.room.queues, c.place-at.ensures.small))
    ∙ sym c.index_mut.ensures.value in
    let at = ap (λ i. get_or old.queues.items i nothing_held) c.place-at.ensures.place in
    omega (
      arith,
      c.requires.place,
      ap (λ (q : Held). length q.messages) queue,
      ap (λ (q : Held). q.room) queue,
      ap (λ (q : Held). length q.messages) at,
      ap (λ (q : Held). q.room) at,
    )

pub returns-clause-posted : goal.returns-clause-posted
returns-clause-posted c =
    let old : Outbox = c.args.self.now in
    let m : Message = c.args.message in
    let k = c.place-at.result in
    let front : Held = c.index_mut.result.now in
    let queue : get_or old.queues.items k nothing_held ≡ front =
    get_or_default old.queues.items k nothing_held front (omega (arith, c.requires.room.queues, c.place-at.ensures.small))
    ∙ sym c.index_mut.ensures.value in
    let number : c.index-number.result.now ≡ get_or old.next.items k 0 = c.index-number.ensures
    ∙ sym (get_or_default old.next.items k 0 c.index-number.result.now
    (omega (arith, c.requires.room.next, c.place-at.ensures.small))) in
    let new : Outbox = record {
      queues = Rattle.std.specs.Vec.with_item old.queues k c.push.new.self;
      next = Rattle.std.specs.Vec.with_item old.next k (c.index-number.result.now + 1);
    } in
    posted_one old new m k c.push.new.self c.requires.room c.place-at.ensures.place c.place-at.ensures.small refl
    (c.push.ensures.messages ∙ ap (λ (q : Held). q.messages ++ c.with_number-numbered.result ∷ []) (sym queue)
    ∙ ap (λ (x : Message). (get_or old.queues.items k nothing_held).messages ++ x ∷ []) c.with_number-numbered.ensures
    ∙ ap (λ n. (get_or old.queues.items k nothing_held).messages ++ record m { number = n } ∷ []) number)
    (ap (λ n. set old.next.items k (n + 1)) number)

pub returns-clause-rooms : goal.returns-clause-rooms
returns-clause-rooms c = λ t d.
    let old : Outbox = c.args.self.now in
    let k = c.place-at.result in
    let front : Held = c.index_mut.result.now in
    let queue : get_or old.queues.items k nothing_held ≡ front =
    get_or_default old.queues.items k nothing_held front (omega (arith, c.requires.room.queues, c.place-at.ensures.small))
    ∙ sym c.index_mut.ensures.value in
    same_room old.queues.items k (place t d) c.push.new.self (c.push.ensures.room ∙ ap (λ (q : Held). q.room) (sym queue))
    (omega (arith, c.requires.room.queues, c.place-at.ensures.small))
