use Rattle.std.proofs.Common.{◌≡◌, ◌∷◌, [], List, ℕ, get_or, set, refl, sym, ◌∙◌, subst}
use Rattle.tw_base.specs.declared.message.Chan.{Chan}
use Rattle.dsm_model.specs.declared.outbox.Outbox.{Outbox}
use Rattle.dsm_model.specs.Posts.{HasSent}
use Rattle.dsm_model.specs.Views.{rooms_of}
use Rattle.dsm_model.proofs.Posting.{element_at, placed, rooms_set, sent_outboxes}
use Rattle.dsm_model.proofs.wires.send.Goals as goal

pub post-requires-clause-place : goal.post-requires-clause-place
post-requires-clause-place c =
    let outboxes : List Outbox = c.args.outboxes.now in
    let at : c.from.result ≡ c.args.message.from = c.from.ensures ∙ c.get.ensures.value in
    placed outboxes c.args.message.from c.args.message.to c.args.message.chan _
    (element_at outboxes c.from.result c.args.message.from c.index-outboxes-from.result at c.requires.from) c.requires.place

pub returns-clause-sent : goal.returns-clause-sent
returns-clause-sent c =
    let outboxes : List Outbox = c.args.outboxes.now in
    let old : Outbox = get_or outboxes c.from.result c.index-outboxes-from.result in
    let at : c.from.result ≡ c.args.message.from = c.from.ensures ∙ c.get.ensures.value in
    subst (λ k. HasSent outboxes (set outboxes k c.post.new.self) (c.args.message ∷ [])) (sym at)
    (sent_outboxes outboxes c.args.message.from old c.post.new.self (c.args.message ∷ [])
    (element_at outboxes c.from.result c.args.message.from c.index-outboxes-from.result at c.requires.from) c.requires.from
    c.requires.room c.post.ensures.room (refl, tt) c.post.ensures.posted)

pub returns-clause-rooms : goal.returns-clause-rooms
returns-clause-rooms c =
    let outboxes : List Outbox = c.args.outboxes.now in
    let old : Outbox = get_or outboxes c.from.result c.index-outboxes-from.result in
    let at : c.from.result ≡ c.args.message.from = c.from.ensures ∙ c.get.ensures.value in
    subst (λ k. (f t : ℕ) (d : Chan) → rooms_of (set outboxes k c.post.new.self) f t d ≡ rooms_of outboxes f t d) (sym at)
    (rooms_set outboxes c.args.message.from old c.post.new.self
    (element_at outboxes c.from.result c.args.message.from c.index-outboxes-from.result at c.requires.from) c.requires.from
    c.post.ensures.rooms)
