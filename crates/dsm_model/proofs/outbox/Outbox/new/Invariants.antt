use Rattle.std.proofs.Common.{◌≡◌, length}
use Rattle.dsm_model.proofs.Starting.{AreEmpty}
use Rattle.dsm_model.proofs.outbox.Outbox.new.Given as goal

abbrev pub invariant-loop-made : goal.invariant-loop-made
invariant-loop-made l = (length l.queues.items ≡ l.made) × AreEmpty l.queues.items
