use Rattle.std.proofs.Common.{◌≡◌, ◌*◌, ◌-◌, ◌++◌, length}
use Rattle.still_nodes.specs.Opening.{rows_of}
use Rattle.still_nodes.proofs.rows.cut.Given as goal

-- the rows so far, and then those of the queues that are left, are all
abbrev pub invariant-loop : goal.invariant-loop
invariant-loop l = record {
  rows : l.rows.items ++ rows_of l.width (l.count - l.counter) l.queues.items ≡ rows_of l.width l.count l.initial.queues.items;
  left : length l.queues.items ≡ l.width * (l.count - l.counter);
}
