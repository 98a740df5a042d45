use Rattle.teapot_parse.proofs.Exact.{refuses-parsed}
use Rattle.teapot_parse.proofs.laws.refusals_are_exact.Goals as goal

pub returns : goal.returns
returns c = refuses-parsed
