use Rattle.std.proofs.Common.{◌≡◌, map, drop}
use Rattle.tw_wire.specs.Joined.{two_each, contents}
use Rattle.tw_wire.proofs.columns.next_row.Given as goal

-- of the columns so far the first two ends are in the row
abbrev pub invariant-loop-one : goal.invariant-loop-one
invariant-loop-one l = record {
  row : l.row.items ≡ two_each (contents l.yielded);
  rest : contents l.rest.items ≡ map (λ c. drop 2 c) (contents l.yielded);
}
