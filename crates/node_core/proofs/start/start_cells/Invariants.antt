use Rattle.std.proofs.Common.{◌≡◌, map}
use Rattle.std.specs.List.{range_with_len}
use Rattle.node_acts.specs.Starts.{start_cell}
use Rattle.node_core.proofs.start.start_cells.Given as goal

abbrev pub invariant-loop-number : goal.invariant-loop-number
invariant-loop-number l = l.cells ≡ map (start_cell l.setup l.me) (range_with_len 0 l.number)
