use Rattle.teapot_parse.proofs.Refusals.{parsed-refuses}
use Rattle.teapot_parse.proofs.laws.refusals_are_first.Goals as goal

pub returns : goal.returns
returns c = parsed-refuses
