use Rattle.teapot_parse.proofs.Again.{parsed-again}
use Rattle.teapot_parse.proofs.laws.given_lines_are_read.Goals as goal

pub returns : goal.returns
returns c = parsed-again
