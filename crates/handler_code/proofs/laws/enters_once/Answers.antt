use Rattle.handler_code.proofs.Ends.{one_entrance}
use Rattle.handler_code.proofs.laws.enters_once.Goals as goal

pub returns : goal.returns
returns c = one_entrance
