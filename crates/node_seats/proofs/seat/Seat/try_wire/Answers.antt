use Rattle.tw_base.specs.declared.entry.Event.TheVariants as event
use Rattle.node_meaning.specs.Nodes.{front_at}
use Rattle.tw_wire.specs.Lending.{shown}
use Rattle.seat_meaning.specs.Seats.{Seated}
use Rattle.node_seats.proofs.Seating.{delivery_takes, makes}
use Rattle.node_seats.proofs.seat.Seat.try_wire.Goals as goal

pub invariant_of-self : goal.invariant_of-self
invariant_of-self g c =
    let s : Seated = record { node = c.self.inside.node; ends = shown c.self.inside.ends; closed = c.self.inside.closed } in
    makes g.N.Naming.setup g.N.Naming.code g.N.Naming.wires g.row.ME s c.deliver.new.self
    (front_at s.node c.args.from c.args.chan) (event.Deliver s.node.me c.args.from c.args.chan) c.deliver.ensures
    (delivery_takes s.node c.args.from c.args.chan) c.self.invariant
