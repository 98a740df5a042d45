-- All nodes and wires that the program keeps, as a state of the model.
use Rattle.dsm_model.specs.declared.global.Global.{Global}
use Rattle.dsm_runs.specs.Setups.{Setup}
use Rattle.dsm_runs.specs.Worlds.{World}
use Rattle.dsm_model.specs.Views.{state_of}

abbrev pub setup_of : Global → Setup
setup_of g = g.setup.now

abbrev pub world_of : Global → World
world_of g = state_of g.setup.now g.locals.items g.outboxes.items
