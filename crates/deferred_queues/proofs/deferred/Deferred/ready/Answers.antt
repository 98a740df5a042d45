use Rattle.std.proofs.Common.{◌≡◌, ◌<◌, ◌-◌, ◌^◌, true, length, set, arith, ap, ◌∙◌}
use Rattle.std.specs.Prelude.{is_some, not}
use Rattle.std.proofs.Math.ListN.{length-set}
use Rattle.deferred_queues.specs.Deferrals.{DeferredList}
use Rattle.deferred_queues.specs.Queues.{by_arrival}
use Rattle.deferred_queues.proofs.Calling.{on_err, ready_kept, ready_list, unready_kept}
use Rattle.deferred_queues.proofs.Keeping.{value_same}
use Rattle.deferred_queues.proofs.deferred.Deferred.ready.Goals as goal

pub invariant_of-self : goal.invariant_of-self
invariant_of-self c =
    let d = c.self.inside in
    let b = c.in-Some.block in
    let same : c.from.result ≡ b = c.from.ensures ∙ c.get.ensures.value in
    let within : b < length d.queues.items = c.self.invariant.within b c.in-Some.is in
    unready_kept d.queues.items d.next d.open_count b c.from.result d.tight c.index_mut.result.now c.reserve.new.self
    c.self.invariant
    c.in-Some.is same (omega (arith, same, within)) c.index_mut.ensures.value c.reserve.ensures.held c.reserve.ensures.below

pub returns-in_err-reserve-clause-err : goal.returns-in_err-reserve-clause-err
returns-in_err-reserve-clause-err c =
    let d = c.self.inside in
    let b = c.in-Some.block in
    let same : c.from.result ≡ b = c.from.ensures ∙ c.get.ensures.value in
    let within : b < length d.queues.items = c.self.invariant.within b c.in-Some.is in
    let list = ready_list d.queues.items d.next c.from.result c.index_mut.result.now c.reserve.new.self
    (omega (arith, same, within)) c.index_mut.ensures.value c.reserve.ensures.held c.reserve.ensures.below in
    on_err _ c.from_residual.result
    (value_same (by_arrival d.next (set d.queues.items c.from.result c.reserve.new.self))
    (by_arrival d.next d.queues.items) (not (is_some d.tight))
    (length (set d.queues.items c.from.result c.reserve.new.self)) (length d.queues.items)
    list (length-set d.queues.items c.from.result c.reserve.new.self) ∙ c.self.view_is)

pub invariant_of-self-2 : goal.invariant_of-self-2
invariant_of-self-2 c =
    let d = c.self.inside in
    let b = c.in-Some.block in
    let same : c.from.result ≡ b = c.from.ensures ∙ c.get.ensures.value in
    let within : b < length d.queues.items = c.self.invariant.within b c.in-Some.is in
    let few : d.next < 2 ^ 64 - 1 = omega arith in
    ready_kept d.queues.items d.next d.open_count b c.from.result d.tight c.index_mut.result.now c.reserve.new.self
    c.self.invariant
    c.in-Some.is same (omega (arith, same, within)) c.index_mut.ensures.value c.reserve.ensures.held
    c.reserve.ensures.below c.in_ok-reserve.ensures.ok few

pub returns-clause-ok : goal.returns-clause-ok
returns-clause-ok c =
    let d = c.self.inside in
    let b = c.in-Some.block in
    let same : c.from.result ≡ b = c.from.ensures ∙ c.get.ensures.value in
    let within : b < length d.queues.items = c.self.invariant.within b c.in-Some.is in
    let list = ready_list d.queues.items d.next c.from.result c.index_mut.result.now c.reserve.new.self
    (omega (arith, same, within)) c.index_mut.ensures.value c.reserve.ensures.held c.reserve.ensures.below in
    value_same (by_arrival d.next (set d.queues.items c.from.result c.reserve.new.self)) c.args.self.now.list true
    (length (set d.queues.items c.from.result c.reserve.new.self)) c.args.self.now.blocks
    (list ∙ ap (λ (v : DeferredList). v.list) c.self.view_is)
    (length-set d.queues.items c.from.result c.reserve.new.self ∙ ap (λ (v : DeferredList). v.blocks) c.self.view_is)
