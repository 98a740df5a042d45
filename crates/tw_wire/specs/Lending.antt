-- An end that is lent.
use Rattle.std.specs.Prelude.{ℕ}
use Rattle.std.specs.Borrow.{Lends, MutBor, Fml}
use Rattle.std.specs.Vec.{with_item}
use Rattle.tw_wire.specs.Sides.{Sending, Receiving}
use Rattle.tw_wire.specs.Wires.{EndsShown}
use Rattle.tw_wire.specs.contracts.pass.SendPass.{the_row as send_row}
use Rattle.tw_wire.specs.contracts.pass.RecvPass.{the_row as recv_row}
use Rattle.tw_wire.specs.declared.ends.Ends.{Ends}
use Rattle.tw_wire.specs.contracts.ends.Ends.{the_row}

abbrev pub shown : Ends → EndsShown
shown e = record { sends = e.sends.items; recvs = e.recvs.items }

abbrev pub with_send : Ends → ℕ → Sending → Ends
with_send e k w = record e { sends = with_item e.sends k w }

abbrev pub with_recv : Ends → ℕ → Receiving → Ends
with_recv e k w = record e { recvs = with_item e.recvs k w }

-- the ends are those with this one as it is left
abbrev pub LendsSend : MutBor Ends → ℕ → MutBor Sending → Fml
LendsSend s k r = Lends the_row send_row s r (with_send s.now k)

abbrev pub LendsRecv : MutBor Ends → ℕ → MutBor Receiving → Fml
LendsRecv s k r = Lends the_row recv_row s r (with_recv s.now k)
