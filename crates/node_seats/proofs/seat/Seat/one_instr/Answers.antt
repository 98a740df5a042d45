use Rattle.tw_wire.specs.Lending.{shown}
use Rattle.seat_meaning.specs.Seats.{Seated}
use Rattle.std.proofs.Common.{None}
use Rattle.tw_base.specs.declared.entry.Event.TheVariants as event
use Rattle.node_seats.proofs.Seating.{instruction_takes, makes, readied}
use Rattle.node_seats.proofs.seat.Seat.one_instr.Goals as goal

pub invariant_of-self : goal.invariant_of-self
invariant_of-self g c =
    let s : Seated = record { node = c.self.inside.node; ends = shown c.self.inside.ends; closed = c.self.inside.closed } in
    readied g.N.Naming.setup g.N.Naming.code g.N.Naming.wires g.row.ME s c.ready.new.self c.ready.ensures.same
    c.ready.ensures.stands c.self.invariant

pub invariant_of-self-then-not-enabled_instr : goal.invariant_of-self-then-not-enabled_instr
invariant_of-self-then-not-enabled_instr g c =
    let s : Seated = record { node = c.self.inside.node; ends = shown c.self.inside.ends; closed = c.self.inside.closed } in
    readied g.N.Naming.setup g.N.Naming.code g.N.Naming.wires g.row.ME s c.ready.new.self c.ready.ensures.same
    c.ready.ensures.stands c.self.invariant

pub invariant_of-self-2 : goal.invariant_of-self-2
invariant_of-self-2 g c =
    let s : Seated = record { node = c.self.inside.node; ends = shown c.self.inside.ends; closed = c.self.inside.closed } in
    let was = readied g.N.Naming.setup g.N.Naming.code g.N.Naming.wires g.row.ME s c.ready.new.self c.ready.ensures.same
    c.ready.ensures.stands c.self.invariant in
    makes g.N.Naming.setup g.N.Naming.code g.N.Naming.wires g.row.ME (record s { node = c.ready.new.self }) c.instr.new.self
    None (event.Instr c.ready.new.self.me) c.instr.ensures (instruction_takes c.ready.new.self) was
