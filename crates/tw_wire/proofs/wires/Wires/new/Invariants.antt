use Rattle.tw_wire.specs.Made.{AreRows}
use Rattle.tw_wire.proofs.wires.Wires.new.Given as goal

abbrev pub invariant-loop-from : goal.invariant-loop-from
invariant-loop-from l = AreRows l.n l.from l.made.rows l.made.sends l.made.recvs.items
