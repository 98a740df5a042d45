use Rattle.std.proofs.Common.{◌+◌, ◌*◌}
use Rattle.compiled_handlers_tests.proofs.chain.+compared.Given as goal

abbrev pub decreases-same_chain : goal.decreases-same_chain
decreases-same_chain l = 2 * l.most

abbrev pub decreases-same_newest : goal.decreases-same_newest
decreases-same_newest l = 2 * l.most + 1
