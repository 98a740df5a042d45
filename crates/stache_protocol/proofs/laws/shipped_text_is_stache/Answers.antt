use Rattle.stache_protocol.proofs.Tied.{text_is_stache}
use Rattle.stache_protocol.proofs.laws.shipped_text_is_stache.Goals as goal

pub returns : goal.returns
returns c = text_is_stache c.printed_trees_are_read_back.ensures
