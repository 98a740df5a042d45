-- A seat may pass from thread to thread, so a lock round it may be shared.
use denote.RattleType.{RattleType}
use denote.Ref.{NamedLft}
use denote.Param.Send.{IsSend, sendable, view_send}
use denote.Param.SendFields.{declared_send}
use Rattle.std.proofs.marker.PhantomData.TheSendSync as phantom
use Rattle.tw_wire.proofs.ends.Ends.TheSendSync as ends
use Rattle.node_core.proofs.Sharing.{node_send}
use Rattle.node_seats.proofs.closed.Closed.TheSendSync as closed
use Rattle.node_seats.specs.contracts.seat.Seat as seat
use Rattle.node_seats.specs.contracts.seat.Seat.TheInside as seat_inside
use Rattle.node_seats.specs.declared.naming.Naming.{Ghosts}

pub seat_send : (a : NamedLft) (N ME : RattleType) (g : Ghosts N.Denot) → IsSend N → IsSend (seat.the_row a N ME g)
seat_send a N ME g leaves =
    view_send _ _ _ _ _ (declared_send (seat_inside.the_type a N ME g) (
      node_send a,
      (
        search (sendable, ends.the_send) depth 8,
        (
          search (sendable, closed.the_send) depth 8,
          (search sendable depth 8, (search (sendable, phantom.the_send) depth 8, tt)),
        ),
      ),
    ))
