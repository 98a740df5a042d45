use Rattle.std.proofs.Common.{◌≡◌, length}
use Rattle.live_slots.specs.Tables.{IsJustified}
use Rattle.live_slots.proofs.table.live_table.Given as goal

abbrev pub invariant-loop : goal.invariant-loop
invariant-loop l = (length l.table ≡ length l.ops) × IsJustified l.ops l.table
