use Rattle.std.proofs.Common.{◌≡◌, List, map, subst, sym}
use Rattle.std.proofs.lemmas.Result.{IfOk-weaker}
use Rattle.std.specs.Global.{Vec}
use Rattle.tw_base.specs.declared.message.Message.{Message}
use Rattle.dsm_runs.specs.Worlds.{World}
use Rattle.still_meaning.specs.Stills.{IsStill, StillShown}
use Rattle.still_nodes.specs.Opening.{opened_still}
use Rattle.node_runtime.proofs.Opened.{closed_ends, closed_state}
use Rattle.node_runtime.proofs.closing.closed.Goals as goal

pub close-requires-clause-ends : goal.close-requires-clause-ends
close-requires-clause-ends g c =
    closed_ends g.N.Naming.setup g.N.Naming.code g.N.Naming.wires c.args.opened.items c.requires.opened c.args.setup.now
    c.requires.setup c.shape-shape.ensures.valid c.args.wires c.requires.wires c.requires.names
    c.in_ok-nodes.field-0.ends.items c.in_ok-nodes.ensures.ends

pub opened-requires-clause-state : goal.opened-requires-clause-state
opened-requires-clause-state g c =
    closed_state g.N.Naming.setup g.N.Naming.code g.N.Naming.wires c.args.opened.items c.requires.opened c.args.setup.now
    c.requires.setup c.shape-shape.ensures.valid c.args.wires c.requires.wires c.requires.names
    c.opened_seats_are_still.ensures c.args.code.now c.requires.code c.in_ok-nodes.field-0.ends.items
    c.in_ok-nodes.field-0.nodes.items (map (λ (v : Vec Message). v.items) c.in_ok-left.left.items)
    c.in_ok-nodes.ensures.ends c.in_ok-nodes.ensures.nodes c.in_ok-left.ensures

pub returns-clause-state : goal.returns-clause-state
returns-clause-state g c =
    let left : List (List Message) = map (λ (v : Vec Message). v.items) c.in_ok-left.left.items in
    let nodes = c.in_ok-nodes.field-0.nodes.items in
    let state =
    closed_state g.N.Naming.setup g.N.Naming.code g.N.Naming.wires c.args.opened.items c.requires.opened c.args.setup.now
    c.requires.setup c.shape-shape.ensures.valid c.args.wires c.requires.wires c.requires.names
    c.opened_seats_are_still.ensures c.args.code.now c.requires.code c.in_ok-nodes.field-0.ends.items nodes left
    c.in_ok-nodes.ensures.ends c.in_ok-nodes.ensures.nodes c.in_ok-left.ensures in
    let still : StillShown = opened_still c.args.setup.now c.args.code.now nodes left in
    IfOk-weaker c.opened.result (λ (s : StillShown). s ≡ still) (λ (s : StillShown). (x : World) × IsStill s x)
    (λ s is. subst (λ (z : StillShown). (x : World) × IsStill z x) (sym is) state) c.opened.ensures
