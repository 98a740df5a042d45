use Rattle.std.proofs.Common.{◌∙◌, ◌+◌, ◌<◌, List, ap, sym, subst}
use Rattle.std.specs.Option.{is_some}
use borrow.Author.Tests.{ltb-true}
use Rattle.node_seats.specs.declared.seat.Opened.{Opened}
use Rattle.node_runtime.specs.Places.{AreOpenedBelow}
use Rattle.node_runtime.proofs.Placing.{opened_more}
use Rattle.node_runtime.proofs.places.open_into.Goals as goal

pub returns-in_ok-push : goal.returns-in_ok-push
returns-in_ok-push g c =
    let n = g.N.Naming.setup.shape.nodes in
    let os : List Opened = c.args.opened.now.items in
    let within : g.row.ME < n = ltb-true g.row.ME n (sym c.requires.some ∙ ap (λ p. is_some p) c.in-Some.is) in
    let more = opened_more g.N.Naming.setup g.N.Naming.code g.N.Naming.wires g.row.ME os c.open.result c.requires.opened within
    c.open.ensures.seated in
    subst (λ (xs : List Opened). AreOpenedBelow g.N.Naming.setup g.N.Naming.code g.N.Naming.wires (g.row.ME + 1) xs)
    (sym c.in_ok-push.ensures.items) more
