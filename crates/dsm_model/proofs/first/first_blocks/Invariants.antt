use Rattle.std.proofs.Common.{◌≡◌, map}
use Rattle.std.specs.List.{range_with_len}
use Rattle.dsm_runs.specs.Setups.{first_here}
use Rattle.dsm_model.proofs.first.first_blocks.Given as goal

abbrev pub invariant-loop-number : goal.invariant-loop-number
invariant-loop-number l = l.blocks ≡ map (first_here l.setup l.me) (range_with_len 0 l.number)
