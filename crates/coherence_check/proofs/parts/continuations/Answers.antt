use Rattle.note_reads.proofs.Lists.{both_so}
use Rattle.dsm_model.specs.Globals.{setup_of, world_of}
use Rattle.coherence_check.proofs.Together.{second}
use Rattle.coherence_check.proofs.parts.continuations.Goals as goal

pub returns : goal.returns
returns c = second c.args.directory (setup_of c.args.g.now) (world_of c.args.g.now) c.args.block _
    (both_so _ _ _ _ _ c.home_has_rest.ensures (both_so _ _ _ _ _ c.nodes_fit-nodes.ensures c.caches_fit-caches.ensures
    c.both.ensures) c.both-2.ensures)
