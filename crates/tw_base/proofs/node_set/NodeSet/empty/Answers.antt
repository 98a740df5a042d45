use Rattle.std.proofs.Common.{refl}
use Rattle.tw_base.specs.NodeSets.{empty}
use Rattle.tw_base.proofs.node_set.NodeSet.empty.Goals as goal

pub returns : goal.returns
unfolding empty
returns c = refl
