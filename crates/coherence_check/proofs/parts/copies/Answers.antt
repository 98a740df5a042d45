use Rattle.dsm_model.specs.Globals.{setup_of, world_of}
use Rattle.coherence_check.proofs.Together.{sixth}
use Rattle.coherence_check.proofs.parts.copies.Goals as goal

pub returns : goal.returns
returns c = sixth c.args.directory (setup_of c.args.g.now) (world_of c.args.g.now) c.args.block _ c.caches_fit.ensures
