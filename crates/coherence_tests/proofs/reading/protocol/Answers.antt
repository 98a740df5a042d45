use Rattle.coherence_tests.proofs.reading.protocol.Goals as goal

pub check-requires : goal.check-requires
check-requires c =
    (c.read_trees_are_given.ensures _ _ _ (c.texts_have_text_lines.ensures _ _ c.in_ok-found.ensures)
    c.in_ok-protocol.ensures).0
