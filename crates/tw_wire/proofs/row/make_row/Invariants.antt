use Rattle.tw_wire.specs.Made.{IsRow}
use Rattle.tw_wire.proofs.row.make_row.Given as goal

abbrev pub invariant-loop-to : goal.invariant-loop-to
invariant-loop-to l = IsRow l.from l.to l.row
