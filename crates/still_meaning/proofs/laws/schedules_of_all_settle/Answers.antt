use Rattle.still_meaning.proofs.Going.{settled}
use Rattle.still_meaning.proofs.laws.schedules_of_all_settle.Goals as goal

pub returns : goal.returns
returns c = settled
