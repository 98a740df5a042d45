use Rattle.std.proofs.Common.{◌≡◌, ◌∙◌, ◌<◌, ◌+◌, List, Bool, None, Some, false, length, ap, subst, sym, arith}
use Rattle.std.specs.Prelude.{slice_set}
use Rattle.std.proofs.lemmas.Bool.{false≢true}
use Rattle.dsm_runs.specs.Setups.{Setup}
use Rattle.node_meaning.specs.Nodes.{Shown, front_at}
use Rattle.node_meaning.proofs.Posting.{place_low}
use Rattle.tw_wire.specs.Lending.{shown}
use Rattle.tw_wire.specs.Places.{Names, place}
use Rattle.tw_wire.specs.Sides.{Receiving}
use Rattle.tw_wire.specs.Wires.{IsNamed}
use Rattle.tw_wire.proofs.Keeping.{recv-named}
use Rattle.seat_meaning.specs.Seats.{IsNext, IsSeated, Seated, closed_at}
use Rattle.node_seats.specs.Steps.{HasKept}
use Rattle.node_seats.proofs.Answers.{when_none}
use Rattle.node_seats.proofs.Ends.{with_recvs}
use Rattle.node_seats.proofs.Seating.{close, keeps, look}
use Rattle.node_seats.proofs.Trying.{kept_closed, kept_front, kept_look}
use Rattle.node_seats.proofs.seat.Seat.fetch.Goals as goal

pub pop-requires : goal.pop-requires
pop-requires g c =
    subst (λ (w : Names). IsNamed w c.recv-pass.result.now.route c.recv-pass.result.now.wire) (sym c.requires.wires)
    (recv-named g.N.Naming.setup.shape.nodes g.N.Naming.wires g.row.ME (shown c.self.inside.ends) c.args.from c.args.chan
    c.recv-pass.result.now c.self.invariant.wires c.recv-pass.ensures.value)

pub invariant_of-self : goal.invariant_of-self
invariant_of-self g c =
    let s : Seated = record { node = c.self.inside.node; ends = shown c.self.inside.ends; closed = c.self.inside.closed } in
    look g.N.Naming.setup g.N.Naming.code g.N.Naming.wires g.row.ME s c.args.from c.args.chan c.recv-pass.result.now
    c.pop.new.pass c.recv-pass.ensures.value c.pop.ensures.wire
    (ap (λ (r : Receiving). r.taken) c.in_default.ensures.taken) c.self.invariant

pub returns-in_default : goal.returns-in_default
returns-in_default g c =
    let s : Seated = record { node = c.self.inside.node; ends = shown c.self.inside.ends; closed = c.self.inside.closed } in
    let k = place c.args.from c.args.chan in
    let new : Seated = record s { ends = with_recvs s.ends k c.pop.new.pass } in
    subst (λ (old : Seated). HasKept old new k (k + 1)) c.self.view_is
    (kept_look s k c.recv-pass.result.now c.pop.new.pass c.recv-pass.ensures.value c.in_default.ensures.taken
    (omega (arith, c.looks-looks.ensures, c.looks-looks.type_inv)))

pub invariant_of-self-then-is_next : goal.invariant_of-self-then-is_next
invariant_of-self-then-is_next g c =
    let s : Seated = record { node = c.self.inside.node; ends = shown c.self.inside.ends; closed = c.self.inside.closed } in
    let m = c.in-Some.message in
    let fits : IsNext s.node c.args.from c.args.chan m = c.is_next.ensures.0 c.if-is_next.true in
    let none : front_at s.node c.args.from c.args.chan ≡ None = when_none
    (front_at s.node c.args.from c.args.chan) c.has_front.result c.has_front.ensures c.if-has_front.false in
    let opened : closed_at s c.args.from c.args.chan ≡ false = sym c.is_closed.ensures ∙ c.if-is_closed.false in
    let low : c.args.from < 8 = omega (
      arith,
      c.requires.from,
      ap (λ (u : Setup). u.shape.nodes) c.self.invariant.same_setup,
      c.entries-log.ensures.well.setup.limits.nodes,
    ) in
    let within : place c.args.from c.args.chan < length s.node.fronts = omega (
      arith,
      place_low c.args.from c.args.chan low,
      c.entries-log.ensures.well.all_fronts,
    ) in
    keeps g.N.Naming.setup g.N.Naming.code g.N.Naming.wires g.row.ME s c.args.from c.args.chan m c.accept.new.self
    c.recv-pass.result.now c.pop.new.pass c.recv-pass.ensures.value c.pop.ensures.wire c.in-Some.ensures.taken
    opened none within fits c.accept.ensures.node c.accept.ensures.stands c.self.invariant

pub invariant_of-self-else-is_next : goal.invariant_of-self-else-is_next
invariant_of-self-else-is_next g c =
    let s : Seated = record { node = c.self.inside.node; ends = shown c.self.inside.ends; closed = c.self.inside.closed } in
    let m = c.in-Some.message in
    let opened : closed_at s c.args.from c.args.chan ≡ false = sym c.is_closed.ensures ∙ c.if-is_closed.false in
    let low : c.args.from < 8 = omega (
      arith,
      c.requires.from,
      ap (λ (u : Setup). u.shape.nodes) c.self.invariant.same_setup,
      c.entries-log.ensures.well.setup.limits.nodes,
    ) in
    let ends = with_recvs s.ends (place c.args.from c.args.chan) c.pop.new.pass in
    subst (λ (l : List Bool). IsSeated g.N.Naming.setup g.N.Naming.code g.N.Naming.wires g.row.ME
    (record { node = s.node; ends = ends; closed = l })) (sym c.close.ensures)
    (close g.N.Naming.setup g.N.Naming.code g.N.Naming.wires g.row.ME s c.args.from c.args.chan m c.recv-pass.result.now
    c.pop.new.pass c.recv-pass.ensures.value c.pop.ensures.wire
    (ap (λ (r : Receiving). r.taken) c.in-Some.ensures.taken) opened (place_low c.args.from c.args.chan low)
    (λ x. false≢true (sym c.if-is_next.false ∙ c.is_next.ensures.1 x)) c.self.invariant)

pub returns-then-is_next : goal.returns-then-is_next
returns-then-is_next g c =
    let s : Seated = record { node = c.self.inside.node; ends = shown c.self.inside.ends; closed = c.self.inside.closed } in
    let k = place c.args.from c.args.chan in
    let m = c.in-Some.message in
    let fits : IsNext s.node c.args.from c.args.chan m = c.is_next.ensures.0 c.if-is_next.true in
    let low : c.args.from < 8 = omega (
      arith,
      c.requires.from,
      ap (λ (u : Setup). u.shape.nodes) c.self.invariant.same_setup,
      c.entries-log.ensures.well.setup.limits.nodes,
    ) in
    let within : k < length s.node.fronts = omega (
      arith,
      place_low c.args.from c.args.chan low,
      c.entries-log.ensures.well.all_fronts,
    ) in
    let there : place m.from m.chan ≡ k = ap (λ f. place f m.chan) fits.fit.on.from ∙ ap (λ d. place c.args.from d) fits.chan in
    let p = c.accept.new.self in
    let node = c.accept.ensures.node in
    let new : Seated = record s { node = p; ends = with_recvs s.ends k c.pop.new.pass } in
    subst (λ (old : Seated). HasKept old new k (k + 1)) c.self.view_is
    (kept_front s k m p c.recv-pass.result.now c.pop.new.pass c.recv-pass.ensures.value
    (ap (λ (r : Receiving). r.looks) c.in-Some.ensures.taken)
    (node ∙ sym (ap (λ (n : Shown). record s.node { fronts = n.fronts; accepted = n.accepted }) node))
    (ap (λ (n : Shown). n.fronts) node ∙ ap (λ j. slice_set s.node.fronts j (Some m)) there) within)

pub returns-else-is_next : goal.returns-else-is_next
returns-else-is_next g c =
    let s : Seated = record { node = c.self.inside.node; ends = shown c.self.inside.ends; closed = c.self.inside.closed } in
    let k = place c.args.from c.args.chan in
    let low : c.args.from < 8 = omega (
      arith,
      c.requires.from,
      ap (λ (u : Setup). u.shape.nodes) c.self.invariant.same_setup,
      c.entries-log.ensures.well.setup.limits.nodes,
    ) in
    let ends = with_recvs s.ends k c.pop.new.pass in
    let kept = kept_closed s k c.recv-pass.result.now c.pop.new.pass c.recv-pass.ensures.value
    (ap (λ (r : Receiving). r.looks) c.in-Some.ensures.taken) (omega (
      arith,
      place_low c.args.from c.args.chan low,
      c.self.invariant.places,
    )) in
    subst (λ (old : Seated). HasKept old (record { node = s.node; ends = ends; closed = c.close.new.self }) k
    (k + 1)) c.self.view_is
    (subst (λ (l : List Bool). HasKept s (record { node = s.node; ends = ends; closed = l }) k (k + 1))
    (sym c.close.ensures) kept)
