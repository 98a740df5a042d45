use Rattle.std.proofs.Common.{◌≡◌, map}
use Rattle.tw_wire.specs.Joined.{contents}
use Rattle.tw_wire.specs.Wires.{EndsShown}
use Rattle.tw_wire.specs.Lending.{shown}
use Rattle.tw_wire.proofs.close.apart.Given as goal

abbrev pub invariant-loop-one : goal.invariant-loop-one
invariant-loop-one l = record {
  rows : l.rows.items ≡ map (λ (e : EndsShown). e.sends) (map shown l.yielded);
  columns : contents l.columns.items ≡ map (λ (e : EndsShown). e.recvs) (map shown l.yielded);
}
