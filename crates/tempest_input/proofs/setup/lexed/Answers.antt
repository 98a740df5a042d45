use Rattle.tempest_input.proofs.Counting.{lexed-fits}
use Rattle.tempest_input.proofs.setup.lexed.Goals as goal

pub returns-in-Ok-clause-count : goal.returns-in-Ok-clause-count
returns-in-Ok-clause-count c = lexed-fits _ _ c.in-Ok.ensures
