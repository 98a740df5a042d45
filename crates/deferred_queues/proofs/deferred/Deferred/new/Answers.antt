use Rattle.deferred_queues.proofs.Keeping.{kept_empty}
use Rattle.deferred_queues.proofs.deferred.Deferred.new.Goals as goal

pub invariant_of-result : goal.invariant_of-result
invariant_of-result c = kept_empty c.in_ok-queues.queues.items c.args.blocks c.in_ok-queues.ensures
