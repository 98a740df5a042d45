use Rattle.tempest_input.proofs.Whole.{both_ways}
use Rattle.tempest_input.proofs.laws.layout_is_read_both_ways.Goals as goal

pub returns : goal.returns
returns c = both_ways
