use Rattle.note_reads.proofs.Lists.{both_so}
use Rattle.dsm_model.specs.Globals.{setup_of, world_of}
use Rattle.coherence_check.proofs.Together.{first}
use Rattle.coherence_check.proofs.parts.states_and_tags.Goals as goal

pub returns : goal.returns
returns c =
    first c.args.directory (setup_of c.args.g.now) (world_of c.args.g.now) c.args.block _
    (both_so _ _ _ _ _ c.requires.protocol (both_so _ _ _ _ _ c.home_has_tag.ensures
    (both_so _ _ _ _ _ c.nodes_fit-nodes.ensures c.caches_fit-caches.ensures c.both.ensures) c.both-2.ensures)
    c.both-3.ensures)
