-- The nodes of a cluster, one after another by number.
use Rattle.std.specs.Prelude.{◌≡◌, ℕ, ◌+◌, ◌-◌, min, List, Some, length, slice_get}
use Rattle.handler_code.specs.declared.code.Code.{Code}
use Rattle.dsm_runs.specs.Setups.{Setup}
use Rattle.tw_wire.specs.Lending.{shown}
use Rattle.tw_wire.specs.Places.{Names}
use Rattle.tw_wire.specs.Wires.{AreEndsOf, AreUnused, EndsShown}
use Rattle.seat_meaning.specs.Seats.{IsSeated, Seated}
use Rattle.node_seats.specs.declared.seat.Opened.{Opened}

-- the ends of node k and of the nodes behind it, which nobody used yet
pub record AreEndsFrom (n : ℕ) (names : Names) (k : ℕ) (ends : List EndsShown) : Type 0 where
  pub count : length ends ≡ n - k
  pub each : (i : ℕ) (e : EndsShown) → slice_get ends i ≡ Some e → AreEndsOf n names (k + i) e × AreUnused e

abbrev pub seated_of : Opened → Seated
seated_of o = record { node = o.node; ends = shown o.ends; closed = o.closed }

-- the seats of the nodes below k
pub record AreOpenedBelow (s : Setup) (code : Code) (names : Names) (k : ℕ) (os : List Opened) : Type 0 where
  pub count : length os ≡ min k s.shape.nodes
  pub each : (i : ℕ) (o : Opened) → slice_get os i ≡ Some o → IsSeated s code names i (seated_of o)
