use Rattle.counted_runs.proofs.Counting.{counts_one}
use Rattle.counted_runs.proofs.laws.counts_are_one.Goals as goal

pub returns : goal.returns
returns c = counts_one c.enters_once.ensures
