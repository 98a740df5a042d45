use Rattle.stache_d_protocol.proofs.Tied.{text_is_d}
use Rattle.stache_d_protocol.proofs.laws.text_is_stache_d.Goals as goal

pub returns : goal.returns
returns c = text_is_d c.printed_trees_are_read_back.ensures
