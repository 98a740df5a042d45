use Rattle.std.proofs.Common.{◌≡◌, ◌++◌, ◌∷◌, [], length, arith, refl, ap, ◌∙◌}
use Rattle.deferred_queues.specs.Deferrals.{DeferredList}
use Rattle.deferred_queues.proofs.Calling.{not_some, push_kept, push_list}
use Rattle.deferred_queues.proofs.Queueing.{stale}
use Rattle.deferred_queues.proofs.deferred.Deferred.push.Goals as goal

pub invariant_of-self : goal.invariant_of-self
invariant_of-self c =
    let d = c.self.inside in
    let same = c.from.ensures ∙ c.get.ensures.value in
    let long : length d.queues.items ≡ c.args.self.now.blocks = ap (λ (v : DeferredList). v.blocks) c.self.view_is in
    let ready = ap (λ (v : DeferredList). v.ready) c.self.view_is ∙ c.requires.ready in
    push_kept d.queues.items d.next d.open_count c.args.message.now.block c.from.result d.tight c.index_mut.result.now
    c.push.new.self
    (record { arrival = d.next; message = c.args.message.now }) c.self.invariant (not_some d.tight ready) same
    (omega (arith, same, long, c.requires.block)) c.index_mut.ensures.value c.push.ensures refl refl

pub returns-clause-list : goal.returns-clause-list
returns-clause-list c =
    let d = c.self.inside in
    let same = c.from.ensures ∙ c.get.ensures.value in
    let long : length d.queues.items ≡ c.args.self.now.blocks = ap (λ (v : DeferredList). v.blocks) c.self.view_is in
    push_list d.queues.items d.next d.open_count c.from.result d.tight c.index_mut.result.now c.push.new.self
    (record { arrival = d.next; message = c.args.message.now }) c.self.invariant
    (omega (arith, same, long, c.requires.block)) c.index_mut.ensures.value c.push.ensures refl
    ∙ ap (λ (v : DeferredList). v.list ++ stale c.args.message.now ∷ []) c.self.view_is
