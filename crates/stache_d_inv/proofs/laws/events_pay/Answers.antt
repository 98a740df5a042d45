use Rattle.stache_d_inv.proofs.Counted.{events_pay, runs_are_counted}
use Rattle.stache_d_inv.proofs.Done.{no_budget_is_spent}
use Rattle.stache_d_inv.proofs.laws.events_pay.Goals as goal

pub returns : goal.returns
returns c = record { event = events_pay; run = runs_are_counted; unspent = no_budget_is_spent }
