use Rattle.still_meaning.proofs.Handing.{next_number}
use Rattle.still_meaning.proofs.laws.first_messages_have_the_next_number.Goals as goal

pub returns : goal.returns
returns c = next_number
