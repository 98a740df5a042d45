use Rattle.note_reads.proofs.Lists.{both_so}
use Rattle.dsm_model.specs.Globals.{setup_of, world_of}
use Rattle.coherence_check.proofs.Together.{third}
use Rattle.coherence_check.proofs.parts.places.Goals as goal

pub returns : goal.returns
returns c =
    third c.args.directory (setup_of c.args.g.now) (world_of c.args.g.now) c.args.block _
    (both_so _ _ _ _ _ c.has_no_strangers.ensures (both_so _ _ _ _ _ c.home_has_its_places-own.ensures
    (both_so _ _ _ _ _ c.nodes_fit-nodes.ensures c.caches_fit-caches.ensures c.both.ensures) c.both-2.ensures)
    c.both-3.ensures)
