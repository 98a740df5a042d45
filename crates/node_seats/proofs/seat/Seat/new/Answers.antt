use Rattle.std.proofs.Common.{◌≡◌, ◌∙◌, List, Bool, sym, subst}
use Rattle.dsm_runs.specs.Replays.{begin}
use Rattle.dsm_runs.specs.Setups.{Setup}
use Rattle.node_meaning.specs.Stands.{StandsFor}
use Rattle.tw_wire.specs.Lending.{shown}
use Rattle.seat_meaning.specs.Seats.{IsSeated}
use Rattle.node_seats.proofs.Seating.{begun}
use Rattle.node_seats.proofs.seat.Seat.new.Goals as goal

pub invariant_of-result : goal.invariant_of-result
invariant_of-result g c =
    let n = c.in_ok-node.node in
    let e = c.in_ok-node.ensures in
    let number : c.unwrap-me.result ≡ g.row.ME = (rw c.unwrap-me.ensures at c.new.ensures).1 in
    let stands : StandsFor n (begin g.N.Naming.setup g.row.ME) = subst (λ (s : Setup). StandsFor n
    (begin s g.row.ME)) c.requires.setup
    (subst (λ k. StandsFor n (begin c.args.setup.now k)) number e.stands) in
    subst (λ (l : List Bool). IsSeated g.N.Naming.setup g.N.Naming.code g.N.Naming.wires g.row.ME
    (record { node = n; ends = shown c.args.ends; closed = l })) (sym c.new-3.ensures)
    (begun g.N.Naming.setup g.N.Naming.code g.N.Naming.wires g.row.ME n (shown c.args.ends) (e.setup
    ∙ c.requires.setup) (e.code ∙ c.requires.code) (e.me
    ∙ number) e.waiting e.fronts stands c.requires.ends c.requires.unused)
