use Rattle.still_meaning.proofs.Going.{through_more}
use Rattle.still_meaning.proofs.laws.runs_of_all_go_on.Goals as goal

pub returns : goal.returns
returns c = through_more
