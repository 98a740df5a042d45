use Rattle.coherence_frame.proofs.Counted.{runs_are_counted}
use Rattle.coherence_frame.proofs.Done.{no_budget_is_spent}
use Rattle.coherence_frame.proofs.Seen.{events_pay}
use Rattle.stache_l_inv.proofs.Scheme.{scheme}
use Rattle.stache_l_inv.proofs.laws.events_pay.Goals as goal

pub returns : goal.returns
returns c = record { event = events_pay scheme; run = runs_are_counted scheme; unspent = no_budget_is_spent scheme }
