use Rattle.still_meaning.proofs.Passing.{passes_through}
use Rattle.still_meaning.proofs.laws.handed_messages_change_nothing.Goals as goal

pub returns : goal.returns
returns c = passes_through
