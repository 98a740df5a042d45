use Rattle.std.proofs.Common.{◌≡◌, ℕ, ◌≤◌, false, length}
use Rattle.live_slots.specs.Tables.{IsClosedAt, IsJustified}
use Rattle.live_slots.proofs.table.sweep.Given as goal

abbrev pub invariant-places : goal.invariant-places
invariant-places l =
    (l.at ≤ length l.ops)
    × (length l.table ≡ length l.ops)
    × (IsJustified l.ops l.initial.table → IsJustified l.ops l.table)
    × (l.changed ≡ false → (place : ℕ) → l.at ≤ place → IsClosedAt l.ops l.table place)

abbrev pub decreases-places : goal.decreases-places
decreases-places l = l.at
