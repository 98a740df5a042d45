use Rattle.std.proofs.Common.{◌≡◌, length, map, arith, ap, ◌∙◌}
use Rattle.dsm_runs.specs.Events.{free}
use Rattle.deferred_queues.specs.Deferrals.{DeferredList}
use Rattle.deferred_queues.proofs.Calling.{counts_one, free_kept, free_list}
use Rattle.deferred_queues.proofs.deferred.Deferred.free.Goals as goal

pub invariant_of-self : goal.invariant_of-self
invariant_of-self c =
    let d = c.self.inside in
    let same = c.from.ensures ∙ c.get.ensures.value in
    let long : length d.queues.items ≡ c.args.self.now.blocks = ap (λ (v : DeferredList). v.blocks) c.self.view_is in
    let q = c.index_mut-queue.result.now in
    let p = c.free.new.self in
    free_kept d.queues.items d.next d.open_count c.from.result c.from-fewer.result c.from-more.result d.tight q p
    c.self.invariant
    (omega (arith, same, long, c.requires)) c.index_mut-queue.ensures.value c.free.ensures
    (counts_one c.from-fewer.result c.is_some.result c.first.result q c.from-fewer.ensures c.is_some.ensures c.first.ensures)
    (counts_one c.from-more.result c.is_some-2.result c.first-2.result p c.from-more.ensures c.is_some-2.ensures
    c.first-2.ensures)

pub returns-clause-list : goal.returns-clause-list
returns-clause-list c =
    let d = c.self.inside in
    let same = c.from.ensures ∙ c.get.ensures.value in
    let long : length d.queues.items ≡ c.args.self.now.blocks = ap (λ (v : DeferredList). v.blocks) c.self.view_is in
    free_list d.queues.items d.next d.open_count c.args.block c.from.result d.tight c.index_mut-queue.result.now
    c.free.new.self c.self.invariant
    same (omega (arith, same, long, c.requires)) c.index_mut-queue.ensures.value c.free.ensures
    ∙ ap (λ (v : DeferredList). map (free c.args.block) v.list) c.self.view_is
