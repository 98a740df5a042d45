use Rattle.std.proofs.Common.{arith}
use Rattle.compiled_handlers_tests.proofs.Chaining.{newest_there, older_named}
use Rattle.compiled_handlers_tests.proofs.chain.+compared.Goals as goal

pub same_newest-get-saved-requires : goal.same_newest-get-saved-requires
same_newest-get-saved-requires t c = newest_there c.requires.chained

pub same_newest-same_chain-requires : goal.same_newest-same_chain-requires
same_newest-same_chain-requires t c = (omega arith, older_named c.requires.chained c.get-saved.ensures)
