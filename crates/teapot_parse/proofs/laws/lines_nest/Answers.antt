use Rattle.teapot_parse.proofs.Judging.{judges-is}
use Rattle.teapot_parse.proofs.laws.lines_nest.Goals as goal

pub returns : goal.returns
returns c = judges-is
