use Rattle.std.proofs.Common.{◌≡◌, List, length, set, arith, ap, sym, ◌∙◌, subst}
use Rattle.std.specs.List.{count_by, list_any}
use Rattle.dsm_runs.specs.declared.mode.Waiting.{Waiting}
use Rattle.dsm_runs.specs.Tests.{has_eligible}
use Rattle.deferred_queues.specs.Deferrals.{DeferredList, TakesFirst}
use Rattle.deferred_queues.specs.Queues.{IsEarliest, BlockQueue, by_arrival, is_open}
use Rattle.deferred_queues.proofs.Calling.{counts_one, pop_block, pop_counted, pop_kept, pop_list, pop_may}
use Rattle.deferred_queues.proofs.Queueing.{any_open}
use Rattle.deferred_queues.proofs.deferred.Deferred.take_first.Goals as goal

pub earliest-at-requires-clause-count : goal.earliest-at-requires-clause-count
earliest-at-requires-clause-count c =
    c.self.invariant.counted ∙ ap (λ (qs : List BlockQueue). count_by is_open qs) (sym c.as_slice.ensures.value)

pub earliest-at-requires-clause-any : goal.earliest-at-requires-clause-any
earliest-at-requires-clause-any c =
    ap (λ (qs : List BlockQueue). list_any is_open qs) c.as_slice.ensures.value
    ∙ any_open c.self.inside.next c.self.inside.queues.items c.self.invariant.sound
    ∙ ap (λ (v : DeferredList). has_eligible v.list) c.self.view_is ∙ c.requires

pub pop-held-requires : goal.pop-held-requires
pop-held-requires c =
    let e = subst (λ (qs : List BlockQueue). IsEarliest qs c.earliest-at.result) c.as_slice.ensures.value
    c.earliest-at.ensures in
    pop_may c.self.inside.queues.items c.earliest-at.result c.index_mut-queue.result.now e c.index_mut-queue.ensures.value

pub overflow_sub-self : goal.overflow_sub-self
overflow_sub-self c =
    let d = c.self.inside in
    let e = subst (λ (qs : List BlockQueue). IsEarliest qs c.earliest-at.result) c.as_slice.ensures.value
    c.earliest-at.ensures in
    pop_counted d.queues.items d.next d.open_count c.earliest-at.result d.tight c.index_mut-queue.result.now
    c.self.invariant e c.index_mut-queue.ensures.value

pub invariant_of-self : goal.invariant_of-self
invariant_of-self c =
    let d = c.self.inside in
    let e = subst (λ (qs : List BlockQueue). IsEarliest qs c.earliest-at.result) c.as_slice.ensures.value
    c.earliest-at.ensures in
    let p = c.pop-held.new.self in
    pop_kept d.queues.items d.next d.open_count c.earliest-at.result c.from-more.result d.tight
    c.index_mut-queue.result.now p c.pop-held.result
    c.self.invariant e c.index_mut-queue.ensures.value c.pop-held.ensures
    (counts_one c.from-more.result c.is_some.result c.first.result p c.from-more.ensures c.is_some.ensures c.first.ensures)

pub returns-clause-takes : goal.returns-clause-takes
returns-clause-takes c =
    let d = c.self.inside in
    let e = subst (λ (qs : List BlockQueue). IsEarliest qs c.earliest-at.result) c.as_slice.ensures.value
    c.earliest-at.ensures in
    let qs = d.queues.items in
    let new : List Waiting = by_arrival d.next (set qs c.earliest-at.result c.pop-held.new.self) in
    subst (λ (v : DeferredList). TakesFirst c.pop-held.result.message v.list new) c.self.view_is
    (pop_list qs d.next d.open_count c.earliest-at.result d.tight c.index_mut-queue.result.now c.pop-held.new.self
    c.pop-held.result
    c.self.invariant e c.index_mut-queue.ensures.value c.pop-held.ensures)

pub returns-clause-block : goal.returns-clause-block
returns-clause-block c =
    let d = c.self.inside in
    let e = subst (λ (qs : List BlockQueue). IsEarliest qs c.earliest-at.result) c.as_slice.ensures.value
    c.earliest-at.ensures in
    let long : length d.queues.items ≡ c.args.self.now.blocks = ap (λ (v : DeferredList). v.blocks) c.self.view_is in
    let within = pop_block d.queues.items d.next d.open_count c.earliest-at.result d.tight c.index_mut-queue.result.now
    c.pop-held.new.self c.pop-held.result
    c.self.invariant e c.index_mut-queue.ensures.value c.pop-held.ensures in
    omega (arith, within, long)
