use Rattle.compiled_handlers_tests.proofs.beside.turn.Goals as goal

pub turn_here-requires-clause-alike : goal.turn_here-requires-clause-alike
turn_here-requires-clause-alike c = c.exchange.ensures.alike _ _ c.requires.beside

pub turn_here-requires-clause-beside : goal.turn_here-requires-clause-beside
turn_here-requires-clause-beside c = c.exchange.ensures.beside _ _ c.requires.alike c.requires.beside
