use Rattle.std.proofs.Common.{◌≡◌, ◌*◌, drop}
use Rattle.std.specs.Vec.Iter.{into_iter_items}
use Rattle.tw_wire.specs.Made.{dealt}
use Rattle.tw_wire.proofs.columns.deal.Given as goal

-- so far as the loop has come, two were dealt to each column
abbrev pub invariant-loop-column : goal.invariant-loop-column
invariant-loop-column l = record {
  columns : l.column-items ≡ dealt l.column-index l.fn.columns.items l.fn.row;
  rest : into_iter_items l.row ≡ drop (2 * l.column-index) l.fn.row;
}
