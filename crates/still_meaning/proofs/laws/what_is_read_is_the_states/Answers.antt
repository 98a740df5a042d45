use Rattle.still_meaning.proofs.Reading.{stands_as}
use Rattle.still_meaning.proofs.laws.what_is_read_is_the_states.Goals as goal

pub returns : goal.returns
returns c = stands_as
