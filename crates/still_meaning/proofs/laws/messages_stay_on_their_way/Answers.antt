use Rattle.still_meaning.proofs.Handing.{popped, put_behind}
use Rattle.still_meaning.proofs.laws.messages_stay_on_their_way.Goals as goal

pub returns : goal.returns
returns c = record { taken = popped; put = put_behind }
