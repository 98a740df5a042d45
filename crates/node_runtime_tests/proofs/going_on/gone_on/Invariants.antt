use Rattle.node_runtime_tests.proofs.going_on.gone_on.Given as goal

-- the setup, its code, and the wires that were just made
abbrev pub ghosts-gone_on_named : goal.ghosts-gone_on_named
ghosts-gone_on_named g a = record { setup = a.setup.now; code = a.code.now; wires = a.wires }
