use Rattle.teapot_rules.proofs.Firstly.{is_accepted, is_first}
use Rattle.teapot_rules.proofs.laws.firsts.Goals as goal

pub returns : goal.returns
returns c = record { broken = is_first; accepted = is_accepted }
