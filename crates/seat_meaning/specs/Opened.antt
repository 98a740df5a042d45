-- Seats that no thread works for any more, and what is left on their wires.
use Rattle.std.specs.Prelude.{◌≡◌, ℕ, ◌<◌, List, Some, length, map, slice_get}
use Rattle.tw_base.specs.declared.message.Chan.{Chan}
use Rattle.tw_base.specs.declared.message.Message.{Message}
use Rattle.handler_code.specs.declared.code.Code.{Code}
use Rattle.dsm_runs.specs.Setups.{Setup}
use Rattle.dsm_runs.specs.Worlds.{World}
use Rattle.still_meaning.specs.Stills.{IsStill, StillShown, row_at}
use Rattle.tw_wire.specs.Places.{Names}
use Rattle.tw_wire.specs.Wires.{AreClosed, left_at}
use Rattle.seat_meaning.specs.Seats.{IsSeated, Seated}

-- the seats of all nodes of this setup and code, by number
pub record AreOpened (s : Setup) (code : Code) (names : Names) (seats : List Seated) : Type 0 where
  pub count : length seats ≡ s.shape.nodes
  pub each : (i : ℕ) (x : Seated) → slice_get seats i ≡ Some x → IsSeated s code names i x

-- the nodes of these seats, with what is left on the wires in the rows between them
pub record AreNodesOf (s : Setup) (code : Code) (seats : List Seated) (left : List (List Message)) (a : StillShown) : Type 0 where
  pub same_setup : a.setup ≡ s
  pub same_code : a.code ≡ code
  pub nodes : a.nodes ≡ map (λ x. x.node) seats
  pub rows : (f t : ℕ) (c : Chan) → f < s.shape.nodes → t < s.shape.nodes → row_at a f t c ≡ left_at s.shape.nodes left f t c

-- Seats of all nodes, whose wires were closed, are some state of the model.
abbrev pub OpenedSeatsAreStill : Type 0
OpenedSeatsAreStill =
    (s : Setup) (code : Code) (names : Names) (seats : List Seated) (left : List (List Message)) (a : StillShown) →
    AreOpened s code names seats →
    AreClosed s.shape.nodes (map (λ x. x.ends) seats) left →
    AreNodesOf s code seats left a →
    (g : World) × IsStill a g
