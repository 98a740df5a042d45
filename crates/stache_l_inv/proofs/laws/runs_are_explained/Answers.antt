use Rattle.coherence_frame.proofs.Keeping.{events_keep, runs_are_explained, starts_kept}
use Rattle.stache_l_inv.proofs.Scheme.{scheme}
use Rattle.stache_l_inv.proofs.laws.runs_are_explained.Goals as goal

pub returns : goal.returns
returns c = record { start = starts_kept scheme; event = events_keep scheme; run = runs_are_explained scheme }
