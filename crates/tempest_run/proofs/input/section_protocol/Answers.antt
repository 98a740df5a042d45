use Rattle.tempest_run.proofs.input.section_protocol.Goals as goal

pub accepted-requires : goal.accepted-requires
accepted-requires c = (c.read_trees_are_given.ensures _ _ _ c.requires c.in-Ok.ensures).0
