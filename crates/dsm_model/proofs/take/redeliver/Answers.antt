use Rattle.std.proofs.Common.{◌≡◌, ◌<◌, ◌+◌, ◌++◌, ℕ, List, Option, Some, length, take, drop, get_or, refl, sym, ◌∙◌, ap, subst}
use Rattle.std.proofs.Common.{arith}
use Rattle.std.specs.Prelude.{position, IsSome}
use Rattle.std.specs.List.{remove}
use Rattle.tw_base.specs.declared.message.Message.{Message}
use Rattle.dsm_runs.specs.declared.mode.Waiting.{Waiting}
use Rattle.dsm_model.specs.declared.handle.Made.{Made}
use Rattle.dsm_model.specs.Posts.{CanSend}
use Rattle.dsm_model.specs.Kept.{is_served}
use Rattle.dsm_runs.specs.Events.{freed_if, with_kept}
use Rattle.dsm_runs.specs.Locals.{IsFirst}
use Rattle.dsm_model.proofs.Handlings.{all-get, made_same, redelivery_made}
use Rattle.dsm_model.proofs.Deferring.{no_fewer, removed}
use Rattle.dsm_model.proofs.Redelivering.{first_at, first_for, first_within, others_for, place_is, same_place}
use Rattle.dsm_model.proofs.take.redeliver.Goals as goal

pub unwrap-at-requires : goal.unwrap-at-requires
unwrap-at-requires c =
    let may = c.requires.may in
    let found : c.first_eligible.result ≡ Some (length may.earlier) =
    c.first_eligible.ensures ∙ ap (λ (ws : List Waiting). position (λ w. w.eligible) ws) c.items.ensures
    ∙ place_is c.args.l.now.deferred may.message may.earlier may.later may.takes in
    subst (λ (o : Option ℕ). IsSome o) (sym found) refl

pub handle-requires-clause-served : goal.handle-requires-clause-served
handle-requires-clause-served c = all-get (is_served c.args.setup.now) c.args.l.now.blocks _ c.block_at-here.result.now
    c.requires.sound.served c.block_at-here.ensures

pub remove-requires : goal.remove-requires
remove-requires c =
    let ws : List Waiting = c.args.l.now.deferred in
    let may = c.requires.may in
    let found : c.first_eligible.result ≡ Some (length may.earlier) =
    c.first_eligible.ensures ∙ ap (λ (xs : List Waiting). position (λ w. w.eligible) xs) c.items.ensures
    ∙ place_is ws may.message may.earlier may.later may.takes in
    let at : c.unwrap-at.result ≡ length may.earlier = same_place c.first_eligible.result c.unwrap-at.result
    (length may.earlier) c.unwrap-at.ensures found in
    let h = c.in_ok-handling.handling in
    let m : Message = (get_or c.items-2.result.now c.unwrap-at.result c.index-items-at.result).message in
    let size = ap (λ (xs : List Waiting). length xs) c.in_ok-defer.ensures.ok in
    omega (
      arith,
      at,
      size,
      first_within ws may.message may.earlier may.later may.takes,
      no_fewer h.ended.kept h.ended.freed m.block m ws,
    )

pub adopt-requires-clause-block : goal.adopt-requires-clause-block
adopt-requires-clause-block c =
    let ws : List Waiting = c.args.l.now.deferred in
    let may = c.requires.may in
    let found : c.first_eligible.result ≡ Some (length may.earlier) =
    c.first_eligible.ensures ∙ ap (λ (xs : List Waiting). position (λ w. w.eligible) xs) c.items.ensures
    ∙ place_is ws may.message may.earlier may.later may.takes in
    let at : c.unwrap-at.result ≡ length may.earlier = same_place c.first_eligible.result c.unwrap-at.result
    (length may.earlier) c.unwrap-at.ensures found in
    let first = first_at ws may.message may.earlier may.later c.unwrap-at.result c.index-items-at.result may.takes at in
    let same = ap (λ (xs : List Waiting). (get_or xs c.unwrap-at.result c.index-items-at.result).message.block)
    c.items-2.ensures in
    omega (arith, same, c.requires.sound.count, first_for c.args.setup.now.shape.blocks _ _ _ ws first c.requires.sound.deferred)

pub returns-clause-made : goal.returns-clause-made
returns-clause-made c =
    let s = c.args.setup.now in
    let l = c.args.l.now in
    let ws : List Waiting = l.deferred in
    let may = c.requires.may in
    let at : ℕ = c.unwrap-at.result in
    let found : c.first_eligible.result ≡ Some (length may.earlier) =
    c.first_eligible.ensures ∙ ap (λ (xs : List Waiting). position (λ w. w.eligible) xs) c.items.ensures
    ∙ place_is ws may.message may.earlier may.later may.takes in
    let at_is : at ≡ length may.earlier = same_place c.first_eligible.result at (length may.earlier) c.unwrap-at.ensures found in
    let m : Message = (get_or c.items-2.result.now at c.index-items-at.result).message in
    let first : IsFirst m (take at ws) (drop (at + 1) ws) ws =
    subst (λ (xs : List Waiting). IsFirst (get_or xs at c.index-items-at.result).message (take at ws) (drop (at + 1) ws) ws)
    (sym c.items-2.ensures)
    (first_at ws may.message may.earlier may.later at c.index-items-at.result may.takes at_is) in
    let within : m.block < s.shape.blocks = first_for s.shape.blocks m (take at ws)
    (drop (at + 1) ws) ws first c.requires.sound.deferred in
    let front : at < length ws = omega (arith, at_is, first_within ws may.message may.earlier may.later may.takes) in
    let h = c.in_ok-handling.handling in
    let is = c.in_ok-handling.ensures.handling in
    let ds : List Waiting = c.remove.new.self in
    let waits : ds ≡ with_kept h.ended.kept m (freed_if h.ended.freed m.block (take at ws ++ drop (at + 1) ws)) =
    c.remove.ensures.rest ∙ ap (λ (xs : List Waiting). remove xs at) c.in_ok-defer.ensures.ok
    ∙ removed h.ended.kept h.ended.freed m.block m ws at front in
    made_same s c.args.me _ l _ _ c.adopt.new.l _ c.adopt.result c.adopt.ensures.node c.adopt.ensures.made
    (redelivery_made s c.args.me l m (take at ws) (drop (at + 1) ws) c.block_at-here.result.now h ds c.requires.me may.may
    c.requires.sound first within c.block_at-here.ensures is
    (others_for s.shape.blocks m (take at ws) (drop (at + 1) ws) ws first c.requires.sound.deferred) waits
    (omega (arith, may.may.sent, c.shape.ensures.valid.limits.budget, is.few)))

pub returns-clause-ready : goal.returns-clause-ready
returns-clause-ready c = subst (λ (m : Made). CanSend c.handle.new.outboxes m.sends)
    (sym c.adopt.ensures.made) c.in_ok-handling.ensures.ready
