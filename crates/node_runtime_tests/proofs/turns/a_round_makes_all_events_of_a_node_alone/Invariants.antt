use Rattle.node_runtime_tests.proofs.turns.a_round_makes_all_events_of_a_node_alone.Given as goal

-- the setup, its code, and the wires that were just made
abbrev pub ghosts-round_named : goal.ghosts-round_named
ghosts-round_named g a = record { setup = a.setup.now; code = a.code.now; wires = a.wires }
