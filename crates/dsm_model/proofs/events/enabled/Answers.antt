use Rattle.dsm_model.specs.Globals.{setup_of, world_of}
use Rattle.dsm_runs.proofs.Testing.{enabled_meaning}
use Rattle.dsm_model.proofs.events.enabled.Goals as goal

pub returns-clause-meaning : goal.returns-clause-meaning
returns-clause-meaning c = enabled_meaning (setup_of c.args.g.now)
    (world_of c.args.g.now) c.args.e c.is_enabled.result c.is_enabled.ensures
