use Rattle.std.proofs.Common.{nat_lt, ap, ◌∙◌}
use Rattle.dsm_runs.specs.Tests.{has_eligible}
use Rattle.deferred_queues.specs.Deferrals.{DeferredList}
use Rattle.deferred_queues.proofs.Calling.{some_counted}
use Rattle.deferred_queues.proofs.Queueing.{any_open}
use Rattle.deferred_queues.proofs.deferred.Deferred.has_eligible.Goals as goal

pub returns : goal.returns
returns c =
    ap (λ n. nat_lt 0 n) c.self.invariant.counted ∙ some_counted c.self.inside.queues.items
    ∙ any_open c.self.inside.next c.self.inside.queues.items c.self.invariant.sound
    ∙ ap (λ (d : DeferredList). has_eligible d.list) c.self.view_is
