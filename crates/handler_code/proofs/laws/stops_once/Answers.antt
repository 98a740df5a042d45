use Rattle.handler_code.proofs.Ends.{one_stop}
use Rattle.handler_code.proofs.laws.stops_once.Goals as goal

pub returns : goal.returns
returns c = λ p code m a b x y. one_stop p code x y
