use Rattle.stache_d_inv.proofs.Keeping.{events_keep, runs_are_explained, starts_kept}
use Rattle.stache_d_inv.proofs.laws.runs_are_explained.Goals as goal

pub returns : goal.returns
returns c = record { start = starts_kept; event = events_keep; run = runs_are_explained }
