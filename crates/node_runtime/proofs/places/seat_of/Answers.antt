use Rattle.std.proofs.Common.{◌≡◌, ◌∙◌, ◌<◌, ◌∷◌, ◌++◌, List, ap, arith, lit<, map, subst}
use Rattle.std.specs.Option.{option_to_list}
use Rattle.std.specs.Vec.Iter.{into_iter_items}
use Rattle.tw_base.specs.Shape.{Sizes}
use Rattle.dsm_runs.specs.Setups.{Setup}
use Rattle.tw_wire.specs.Lending.{shown}
use Rattle.tw_wire.specs.declared.ends.Ends.{Ends}
use Rattle.node_runtime.specs.Places.{AreEndsFrom}
use Rattle.node_runtime.proofs.Placing.{first_ends, later_ends}
use Rattle.node_runtime.proofs.places.seat_of.Goals as goal

pub new-requires : goal.new-requires
new-requires g c =
    let n = g.N.Naming.setup.shape.nodes in
    let within : g.row.ME < n =
    omega (
      arith,
      c.if-nodes.false,
      c.nodes.ensures.value,
      ap (λ (z : Sizes). z.nodes) c.shape.ensures.value,
      ap (λ (s : Setup). s.shape.nodes) c.requires.setup,
    ) in
    let own : Ends = c.unwrap-own.result in
    let rest : List Ends = into_iter_items c.next.new.self in
    let is : into_iter_items c.args.ends.now ≡ own ∷ rest =
    c.next.ensures.items ∙ ap (λ o. option_to_list o ++ rest) c.unwrap-own.ensures in
    let from = subst (λ (es : List Ends). AreEndsFrom n g.N.Naming.wires g.row.ME (map shown es)) is c.requires.ends in
    let first = first_ends n g.N.Naming.wires g.row.ME (shown own) (map shown rest) from in
    (lit< tt, (c.requires.setup, (c.requires.code, (c.requires.is_code, (c.requires.short, (within, (first.0, first.1)))))))

pub returns-clause-ends : goal.returns-clause-ends
returns-clause-ends g c =
    let n = g.N.Naming.setup.shape.nodes in
    let own : Ends = c.unwrap-own.result in
    let rest : List Ends = into_iter_items c.next.new.self in
    let is : into_iter_items c.args.ends.now ≡ own ∷ rest =
    c.next.ensures.items ∙ ap (λ o. option_to_list o ++ rest) c.unwrap-own.ensures in
    let from = subst (λ (es : List Ends). AreEndsFrom n g.N.Naming.wires g.row.ME (map shown es)) is c.requires.ends in
    later_ends n g.N.Naming.wires g.row.ME (shown own) (map shown rest) from
