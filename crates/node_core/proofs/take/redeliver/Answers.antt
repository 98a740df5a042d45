use Rattle.std.proofs.Common.{◌+◌}
use Rattle.node_core.specs.States.{shown_of}
use Rattle.node_core.proofs.Takes.{can_handle, may_handle_sent, redelivery_made, redelivery_tests}
use Rattle.node_core.proofs.take.redeliver.Goals as goal

pub handle-requires : goal.handle-requires
handle-requires c =
    let first = c.take_first-message.ensures.takes in
    can_handle c.args.setup.now c.args.code.now c.args.me c.args.state.now c.take_first-message.result c.args.state.now.mode
    c.args.state.now.instructions (c.args.state.now.handled + 1) c.take_first-message.new.self c.args.state.now.fronts
    c.requires.node c.requires.ready
    (may_handle_sent (shown_of c.args.setup.now c.args.code.now c.args.me c.args.state.now)
    (redelivery_tests (shown_of c.args.setup.now c.args.code.now c.args.me c.args.state.now) c.requires.enabled).0)
    (c.nodes_are_ready_for_handlers.ensures.firsts (shown_of c.args.setup.now c.args.code.now c.args.me c.args.state.now)
    c.take_first-message.result first.earlier first.later c.requires.node.well c.requires.node.replayed first.takes)
    c.take_first-message.ensures.ready c.take_first-message.ensures.blocks

pub returns-clause-makes : goal.returns-clause-makes
returns-clause-makes c =
    (redelivery_made c.args.setup.now c.args.code.now c.args.me c.args.state.now c.handle.new.state
    c.take_first-message.result c.take_first-message.new.self c.handler_events_are_made.ensures.redeliveries
    c.requires.node c.requires.enabled c.take_first-message.ensures.takes c.take_first-message.ensures.blocks
    c.handle.ensures).makes

pub returns-clause-node : goal.returns-clause-node
returns-clause-node c =
    (redelivery_made c.args.setup.now c.args.code.now c.args.me c.args.state.now c.handle.new.state
    c.take_first-message.result c.take_first-message.new.self c.handler_events_are_made.ensures.redeliveries
    c.requires.node c.requires.enabled c.take_first-message.ensures.takes c.take_first-message.ensures.blocks
    c.handle.ensures).node
