use Rattle.journal.proofs.Prints.{printed}
use Rattle.journal.proofs.laws.report_has_the_prints.Goals as goal

pub returns : goal.returns
returns c = printed
