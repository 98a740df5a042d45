use Rattle.report_replay.proofs.stands.add_node.Goals as goal

pub returns : goal.returns
returns c = rw (← c.local.ensures, ← c.get.ensures.value) c.add_local.ensures
