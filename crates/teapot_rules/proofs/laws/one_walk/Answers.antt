use Rattle.teapot_rules.proofs.Ruling.{walk_lines}
use Rattle.teapot_rules.proofs.laws.one_walk.Goals as goal

pub returns : goal.returns
returns c = walk_lines
