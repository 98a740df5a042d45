use Rattle.still_meaning.proofs.Made.{made_through}
use Rattle.still_meaning.proofs.laws.events_of_one_are_of_all.Goals as goal

pub returns : goal.returns
returns c = made_through
