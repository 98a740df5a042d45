use Rattle.message_facts.proofs.Leaving.{eligible_messages_are_freed}
use Rattle.message_facts.proofs.laws.eligible_messages_are_freed.Goals as goal

pub returns : goal.returns
returns c = eligible_messages_are_freed
