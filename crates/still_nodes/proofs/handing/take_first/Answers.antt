use Rattle.std.proofs.Common.{◌≡◌, ◌∙◌, Some, get_or}
use Rattle.std.specs.Prelude.{slice_get}
use Rattle.node_meaning.specs.Nodes.{Shown}
use Rattle.still_nodes.proofs.Parts.{node_read, pops, some_first, still_waits, waits_within}
use Rattle.still_nodes.proofs.handing.take_first.Goals as goal

pub unwrap-requires : goal.unwrap-requires
unwrap-requires c =
    let ns = c.args.nodes.now in
    let old : Shown = get_or ns c.from.result c.index-nodes-from.result in
    let there : slice_get ns c.args.node ≡ Some old =
    node_read ns c.from.result c.args.node c.index-nodes-from.result (c.from.ensures ∙ c.get.ensures.value)
    (waits_within ns c.args.node c.requires) in
    some_first old.waiting c.out_pop.result c.out_pop.ensures.first (still_waits ns c.args.node old there c.requires)

pub returns : goal.returns
returns c =
    let ns = c.args.nodes.now in
    let old : Shown = get_or ns c.from.result c.index-nodes-from.result in
    let at = c.from.ensures ∙ c.get.ensures.value in
    let e = c.out_pop.ensures in
    pops ns c.from.result c.args.node old c.out_pop.new.self c.out_pop.result c.unwrap.result
    (node_read ns c.from.result c.args.node c.index-nodes-from.result at (waits_within ns c.args.node c.requires)) at
    c.unwrap.ensures e.popped e.same e.fit e.stands
