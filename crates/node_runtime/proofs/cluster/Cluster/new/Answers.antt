use Rattle.std.proofs.Common.{List, lit<, map, subst, sym}
use Rattle.std.specs.Vec.Iter.{into_iter_items}
use Rattle.tw_wire.specs.Lending.{shown}
use Rattle.tw_wire.specs.Wires.{AreNew}
use Rattle.tw_wire.specs.declared.ends.Ends.{Ends}
use Rattle.node_runtime.proofs.Placing.{ends_new}
use Rattle.node_runtime.proofs.cluster.Cluster.new.Goals as goal

pub seat_of-requires : goal.seat_of-requires
seat_of-requires g c =
    let n = g.N.Naming.setup.shape.nodes in
    let ends = map shown (into_iter_items c.into_iter-ends.result) in
    let new = subst (λ (es : List Ends). AreNew n g.N.Naming.wires (map shown es))
    (sym c.into_iter-ends.ensures.rest) c.requires.ends in (
      lit< tt,
      (c.requires.setup, (c.requires.code, (c.requires.is_code, (c.requires.short, ends_new n g.N.Naming.wires ends new)))),
    )
