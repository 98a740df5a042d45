use Rattle.std.proofs.Common.{◌≡◌, ◌∙◌, ◌≤◌, ◌*◌, None, false, ap, subst, sym, arith}
use Rattle.std.specs.Bool.{MatchBool}
use Rattle.tw_base.specs.declared.entry.Event.TheVariants as event
use Rattle.tw_base.specs.Shape.{Sizes}
use Rattle.dsm_runs.specs.Setups.{Setup}
use Rattle.node_meaning.specs.Nodes.{Shown, test_of}
use Rattle.tw_wire.specs.Lending.{shown}
use Rattle.seat_meaning.specs.Seats.{Seated}
use Rattle.node_seats.specs.Steps.{HasTried}
use Rattle.node_seats.specs.Turns.{Grows, HasServed, is_handling}
use Rattle.node_seats.proofs.Seating.{makes, readied, redelivery_takes}
use Rattle.node_seats.proofs.Turning.{ends_so, handled, served}
use Rattle.node_seats.proofs.seat.Seat.one_handling.Goals as goal

pub invariant_of-self : goal.invariant_of-self
invariant_of-self g c =
    let s : Seated = record { node = c.self.inside.node; ends = shown c.self.inside.ends; closed = c.self.inside.closed } in
    readied g.N.Naming.setup g.N.Naming.code g.N.Naming.wires g.row.ME s c.ready.new.self c.ready.ensures.same
    c.ready.ensures.stands c.self.invariant

pub invariant_of-self-then-enabled_redeliver : goal.invariant_of-self-then-enabled_redeliver
invariant_of-self-then-enabled_redeliver g c =
    let s : Seated = record { node = c.self.inside.node; ends = shown c.self.inside.ends; closed = c.self.inside.closed } in
    let was = readied g.N.Naming.setup g.N.Naming.code g.N.Naming.wires g.row.ME s c.ready.new.self c.ready.ensures.same
    c.ready.ensures.stands c.self.invariant in
    makes g.N.Naming.setup g.N.Naming.code g.N.Naming.wires g.row.ME
    (record s { node = c.ready.new.self }) c.redeliver.new.self None
    (event.Redeliver c.ready.new.self.me) c.redeliver.ensures (redelivery_takes c.ready.new.self) was

pub invariant_of-self-then-not-takes_messages : goal.invariant_of-self-then-not-takes_messages
invariant_of-self-then-not-takes_messages g c =
    let s : Seated = record { node = c.self.inside.node; ends = shown c.self.inside.ends; closed = c.self.inside.closed } in
    readied g.N.Naming.setup g.N.Naming.code g.N.Naming.wires g.row.ME s c.ready.new.self c.ready.ensures.same
    c.ready.ensures.stands c.self.invariant

pub invariant_of-self-2 : goal.invariant_of-self-2
invariant_of-self-2 g c =
    let s : Seated = record { node = c.self.inside.node; ends = shown c.self.inside.ends; closed = c.self.inside.closed } in
    readied g.N.Naming.setup g.N.Naming.code g.N.Naming.wires g.row.ME s c.ready.new.self c.ready.ensures.same
    c.ready.ensures.stands c.self.invariant

pub returns-clause-ok : goal.returns-clause-ok
returns-clause-ok g c =
    let s : Seated = record { node = c.self.inside.node; ends = shown c.self.inside.ends; closed = c.self.inside.closed } in
    let p : Shown = c.ready.new.self in
    let b = c.try_wires.new.self in
    let d = c.try_wires-2.new.self in
    let all = 2 * c.nodes-all.result in
    let nodes : all ≡ 2 * p.setup.shape.nodes = omega (
      arith,
      c.nodes-all.ensures.value,
      ap (λ (x : Sizes). x.nodes) c.shape.ensures.value,
      ap (λ (u : Setup). u.shape.nodes) c.setup.ensures,
    ) in
    let idle : test_of p (event.Redeliver p.me) ≡ false = sym c.enabled_redeliver.ensures ∙ c.if-enabled_redeliver.false in
    let first : HasTried (record s { node = p }) b c.min-next.result all = c.if-try_wires.ensures.tried in
    let below : c.min-next.result ≤ all = omega (arith, c.min-next.ensures) in
    let log : b.node.log ≡ s.node.log = ap (λ (n : Shown). n.log) first.kept.node
    ∙ ap (λ (n : Shown). n.log) c.ready.ensures.same in
    let made : Grows is_handling b.node.log d.node.log 1
    → Grows is_handling s.node.log d.node.log 1 = λ h. handled s.node.log b.node.log d.node.log log h in
    let none : HasTried b d 0 c.min-next.result
    → HasServed s d = λ h. served s p b d c.min-next.result all below nodes idle first h in
    subst (λ (old : Seated). MatchBool c.try_wires-2.result (Grows is_handling old.node.log d.node.log 1)
    (HasServed old d)) c.self.view_is
    (ends_so c.try_wires-2.result (Grows is_handling b.node.log d.node.log 1) (HasTried b d 0 c.min-next.result)
    (Grows is_handling s.node.log d.node.log 1) (HasServed s d)
    c.try_wires-2.ensures.grows c.try_wires-2.ensures.tried made none)
