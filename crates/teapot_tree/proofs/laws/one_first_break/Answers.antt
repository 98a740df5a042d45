use Rattle.teapot_tree.proofs.Firsts.{one_first}
use Rattle.teapot_tree.proofs.laws.one_first_break.Goals as goal

pub returns : goal.returns
returns c = one_first
