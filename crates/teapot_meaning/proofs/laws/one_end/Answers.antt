use Rattle.teapot_meaning.proofs.Ends.{one_end}
use Rattle.teapot_meaning.proofs.laws.one_end.Goals as goal

pub returns : goal.returns
returns c = one_end
