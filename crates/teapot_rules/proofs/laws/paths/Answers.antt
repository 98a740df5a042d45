use Rattle.teapot_rules.proofs.Counts.{most-is}
use Rattle.teapot_rules.proofs.Follows.{follow-is}
use Rattle.teapot_rules.proofs.Lasts.{not_last-is}
use Rattle.teapot_rules.proofs.laws.paths.Goals as goal

pub returns : goal.returns
returns c = record { follows = follow-is; last = not_last-is; sends = most-is }
