use Rattle.teapot_print.proofs.Back.{canon-is-read-back}
use Rattle.teapot_print.proofs.laws.printed_trees_are_read_back.Goals as goal

pub returns : goal.returns
returns c = canon-is-read-back
