use Rattle.node_runtime.proofs.run.run_threads.Given as goal

-- the setup, its code, and the wires that were just made
abbrev pub ghosts-run_named : goal.ghosts-run_named
ghosts-run_named g a = record { setup = a.setup.now; code = a.code.now; wires = a.wires }
