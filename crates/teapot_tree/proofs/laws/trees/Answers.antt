use Rattle.teapot_tree.proofs.Iso.{tree-body, body-tree}
use Rattle.teapot_tree.proofs.laws.trees.Goals as goal

pub returns : goal.returns
returns c = record { tree = tree-body; body = body-tree }
