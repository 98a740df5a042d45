use Rattle.node_runtime_tests.proofs.turns.a_turn_makes_the_events_of_a_node.Given as goal

-- the setup, its code, and the wires that were just made
abbrev pub ghosts-turns_named : goal.ghosts-turns_named
ghosts-turns_named g a = record { setup = a.setup.now; code = a.code.now; wires = a.wires }
