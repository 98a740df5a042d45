use Rattle.teapot_parse.proofs.Found.{parsed-found}
use Rattle.teapot_parse.proofs.laws.read_trees_are_given.Goals as goal

pub returns : goal.returns
returns c = parsed-found
