use Rattle.teapot_parse.proofs.TextLines.{text-gives-tree}
use Rattle.teapot_parse.proofs.laws.texts_give_trees.Goals as goal

pub returns : goal.returns
returns c = text-gives-tree
