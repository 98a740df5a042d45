use Rattle.std.proofs.Common.{◌+◌, arith, ap, refl}
use Rattle.node_core.specs.States.{shown_of}
use Rattle.node_meaning.specs.Nodes.{front_at}
use Rattle.node_core.proofs.Takes.{can_handle, delivery_made, delivery_tests, early_is, early_there, may_handle_few}
use Rattle.node_core.proofs.Takes.{may_handle_sent, stamp_fits}
use Rattle.node_core.proofs.take.deliver.Goals as goal

pub take_front-message-requires : goal.take_front-message-requires
take_front-message-requires c =
    early_there (front_at (shown_of c.args.setup.now c.args.code.now c.args.me c.args.state.now) c.args.from c.args.chan)
    (front_at (shown_of c.args.setup.now c.args.code.now c.args.me c.args.state.now) c.args.from c.args.chan) refl
    (delivery_tests (shown_of c.args.setup.now c.args.code.now c.args.me c.args.state.now) c.args.from c.args.chan
    c.requires.enabled).1

pub overflow_add-stamp : goal.overflow_add-stamp
overflow_add-stamp c =
    let tests = delivery_tests (shown_of c.args.setup.now c.args.code.now c.args.me c.args.state.now) c.args.from c.args.chan
    c.requires.enabled in
    let clock = (may_handle_few (shown_of c.args.setup.now c.args.code.now c.args.me c.args.state.now) tests.0).1 in
    let early = early_is (front_at (shown_of c.args.setup.now c.args.code.now c.args.me c.args.state.now) c.args.from
    c.args.chan) c.take_front-message.result c.take_front-message.ensures.taken tests.1 in
    omega (
      arith,
      stamp_fits c.args.state.now.clock c.take_front-message.result.stamp clock early,
      ap (λ n. n + 1)
          c.max-stamp.ensures,
    )

pub handle-requires : goal.handle-requires
handle-requires c =
    let tests = delivery_tests (shown_of c.args.setup.now c.args.code.now c.args.me c.args.state.now) c.args.from c.args.chan
    c.requires.enabled in
    can_handle c.args.setup.now c.args.code.now c.args.me c.args.state.now c.take_front-message.result c.args.state.now.mode
    c.args.state.now.instructions (c.args.state.now.handled + 1) c.args.state.now.deferred c.take_front-message.new.fronts
    c.requires.node c.requires.ready
    (may_handle_sent (shown_of c.args.setup.now c.args.code.now c.args.me c.args.state.now) tests.0)
    (c.nodes_are_ready_for_handlers.ensures.fronts (shown_of c.args.setup.now c.args.code.now c.args.me c.args.state.now)
    c.args.from c.args.chan c.take_front-message.result c.requires.node.well c.requires.node.replayed
    c.take_front-message.ensures.taken)
    refl refl

pub returns-clause-makes : goal.returns-clause-makes
returns-clause-makes c =
    (delivery_made c.args.setup.now c.args.code.now c.args.me c.args.state.now c.handle.new.state c.args.from c.args.chan
    c.take_front-message.result c.take_front-message.new.fronts
    (c.max-stamp.result + 1) c.handler_events_are_made.ensures.deliveries
    c.requires.node c.requires.enabled c.requires.from c.take_front-message.ensures.taken c.take_front-message.ensures.items
    c.take_front-message.ensures.accepted (ap (λ n. n + 1) c.max-stamp.ensures)
    c.handle.ensures).makes

pub returns-clause-node : goal.returns-clause-node
returns-clause-node c =
    (delivery_made c.args.setup.now c.args.code.now c.args.me c.args.state.now c.handle.new.state c.args.from c.args.chan
    c.take_front-message.result c.take_front-message.new.fronts
    (c.max-stamp.result + 1) c.handler_events_are_made.ensures.deliveries
    c.requires.node c.requires.enabled c.requires.from c.take_front-message.ensures.taken c.take_front-message.ensures.items
    c.take_front-message.ensures.accepted (ap (λ n. n + 1) c.max-stamp.ensures)
    c.handle.ensures).node
