use Rattle.std.proofs.Common.{◌≡◌, ◌∙◌, ◌∷◌, ap, sym}
use Rattle.tw_wire.specs.Lending.{shown}
use Rattle.tw_wire.specs.Places.{place}
use Rattle.tw_wire.specs.Sides.{with_sent}
use Rattle.tw_base.specs.declared.message.Message.{Message}
use Rattle.seat_meaning.specs.Seats.{Seated}
use Rattle.node_seats.proofs.Answers.{handed, no_first, when_err, when_ok}
use Rattle.node_seats.proofs.Seating.{pushes, unpushed}
use Rattle.node_seats.proofs.seat.Seat.push_one.Goals as goal

pub returns-in_default-clause-ok : goal.returns-in_default-clause-ok
returns-in_default-clause-ok g c = ap (λ (s : Seated). s.node.waiting) (sym c.self.view_is)
    ∙ no_first c.self.inside.node.waiting c.in_default.ensures.first

pub invariant_of-self : goal.invariant_of-self
invariant_of-self g c =
    let s : Seated = record { node = c.self.inside.node; ends = shown c.self.inside.ends; closed = c.self.inside.closed } in
    let m = c.in-Some.field-0.now in
    let err = when_err c.push.result (λ (e : Message). (e ≡ m) × (c.push.new.pass ≡ c.send-pass.result.now))
    (sym c.is_err.ensures.value ∙ c.if-is_err.true) c.push.ensures.err in
    unpushed g.N.Naming.setup g.N.Naming.code g.N.Naming.wires g.row.ME s
    (place m.to m.chan) c.send-pass.result.now c.push.new.pass c.send-pass.ensures.value err.1.1 c.self.invariant

pub invariant_of-self-2 : goal.invariant_of-self-2
invariant_of-self-2 g c =
    let s : Seated = record { node = c.self.inside.node; ends = shown c.self.inside.ends; closed = c.self.inside.closed } in
    let m = c.in-Some.field-0.now in
    let p = c.out_pop.new.self in
    let waits : s.node.waiting ≡ m ∷ p.waiting = handed s.node.waiting p.waiting c.out_pop.result m c.out_pop.ensures.popped
    c.out_pop.ensures.first c.in-Some.ensures.first in
    let sent : c.push.new.pass ≡ with_sent c.send-pass.result.now m = when_ok c.push.result
    (c.push.new.pass ≡ with_sent c.send-pass.result.now m) (sym c.is_err.ensures.value
    ∙ c.if-is_err.false) c.push.ensures.ok in
    pushes g.N.Naming.setup g.N.Naming.code g.N.Naming.wires g.row.ME s m p c.send-pass.result.now c.push.new.pass waits
    c.in-Some.ensures.fit c.send-pass.ensures.value c.push.ensures.wire sent c.out_pop.ensures.same
    c.out_pop.ensures.stands c.self.invariant
