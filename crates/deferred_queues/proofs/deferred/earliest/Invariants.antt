use Rattle.deferred_queues.proofs.Calling.{IsSought}
use Rattle.deferred_queues.proofs.deferred.earliest.Given as goal

abbrev pub invariant-loop-at : goal.invariant-loop-at
invariant-loop-at l = IsSought l.queues l.at l.found l.left
