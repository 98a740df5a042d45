use Rattle.journal.proofs.Telling.{history_told}
use Rattle.journal.proofs.laws.history_is_told.Goals as goal

pub returns : goal.returns
returns c = history_told
