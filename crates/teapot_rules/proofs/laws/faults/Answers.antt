use Rattle.teapot_rules.proofs.Faulty.{lines-are}
use Rattle.teapot_rules.proofs.laws.faults.Goals as goal

pub returns : goal.returns
returns c = lines-are
