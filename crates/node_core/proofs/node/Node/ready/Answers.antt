use Rattle.std.proofs.Common.{subst}
use Rattle.node_core.specs.States.{shown_of}
use Rattle.node_meaning.specs.Nodes.{Shown}
use Rattle.node_meaning.specs.Stands.{StandsAsBefore}
use Rattle.node_core.proofs.Nodes.{room_node, room_standing, rooms_if}
use Rattle.node_core.proofs.node.Node.ready.Goals as goal

pub invariant_of-self : goal.invariant_of-self
invariant_of-self c =
    let n = c.self.inside in
    room_node n.setup.now n.code.now n.me n.state c.make_room.new.state c.self.invariant c.make_room.ensures.same
    (rooms_if c.make_room.result n.state c.make_room.new.state c.if-self.false c.make_room.ensures.rooms c.make_room.ensures.err)

pub returns-clause-stands : goal.returns-clause-stands
returns-clause-stands c =
    let n = c.self.inside in
    subst (λ (o : Shown). StandsAsBefore o (shown_of n.setup.now n.code.now n.me c.make_room.new.state)) c.self.view_is
    (room_standing n.setup.now n.code.now n.me n.state c.make_room.new.state c.make_room.ensures.same)
