use Rattle.still_meaning.proofs.Going.{begun_through}
use Rattle.still_meaning.proofs.laws.schedules_of_all_go_on.Goals as goal

pub returns : goal.returns
returns c = begun_through
