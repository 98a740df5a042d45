use Rattle.deferred_queues.specs.Queues.{AreEmpty}
use Rattle.deferred_queues.proofs.deferred.empty_queues.Given as goal

abbrev pub invariant-loop : goal.invariant-loop
invariant-loop l = AreEmpty l.counter l.queues.items
