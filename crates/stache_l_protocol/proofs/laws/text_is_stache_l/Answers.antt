use Rattle.stache_l_protocol.proofs.Tied.{text_is_l}
use Rattle.stache_l_protocol.proofs.laws.text_is_stache_l.Goals as goal

pub returns : goal.returns
returns c = text_is_l c.printed_trees_are_read_back.ensures
