use Rattle.message_facts.proofs.Leaving.{sends_are_bare}
use Rattle.message_facts.proofs.laws.sends_are_bare.Goals as goal

pub returns : goal.returns
returns c = sends_are_bare
