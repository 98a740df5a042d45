use Rattle.std.proofs.Common.{◌≡◌, map}
use Rattle.node_seats.specs.declared.seat.Opened.{Opened}
use Rattle.node_runtime.proofs.closing.parted.Given as goal

abbrev pub invariant-loop-one : goal.invariant-loop-one
invariant-loop-one l = record {
  nodes : l.nodes.items ≡ map (λ (o : Opened). o.node) l.yielded;
  ends : l.ends.items ≡ map (λ (o : Opened). o.ends) l.yielded;
}
