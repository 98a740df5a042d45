use Rattle.value_nodes.proofs.Messages.{messages_stay_within}
use Rattle.value_nodes.proofs.laws.messages_stay_within.Goals as goal

pub returns : goal.returns
returns c = messages_stay_within
