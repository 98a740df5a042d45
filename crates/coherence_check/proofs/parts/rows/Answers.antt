use Rattle.note_reads.proofs.Lists.{both_so}
use Rattle.dsm_model.specs.Globals.{setup_of, world_of}
use Rattle.coherence_check.proofs.Together.{fifth}
use Rattle.coherence_check.proofs.parts.rows.Goals as goal

pub returns : goal.returns
returns c = fifth c.args.directory (setup_of c.args.g.now) (world_of c.args.g.now) c.args.block _
    (both_so _ _ _ _ _ c.home_has_infos.ensures (both_so _ _ _ _ _ c.acks_fit.ensures c.caches_fit-caches.ensures
    c.both.ensures) c.both-2.ensures)
