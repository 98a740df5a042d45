use Rattle.dsm_runs.specs.Worlds.{start}
use Rattle.dsm_runs.proofs.OneEnd.{run_world}
use Rattle.dsm_runs.proofs.laws.run_has_one_end.Goals as goal

pub returns : goal.returns
returns c = λ s journal g h p q. run_world s journal (start s) g h p q
