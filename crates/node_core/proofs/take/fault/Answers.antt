use Rattle.std.proofs.Common.{◌+◌, refl}
use Rattle.dsm_runs.specs.declared.mode.Mode.TheVariants as mode
use Rattle.std.proofs.Common.{sym, subst}
use Rattle.tw_base.specs.declared.message.Message.{Message}
use Rattle.node_core.specs.States.{shown_of}
use Rattle.node_meaning.specs.Handling.{IsReadyFor}
use Rattle.node_core.proofs.Takes.{can_handle, fault_made, may_instruct_sent}
use Rattle.node_core.proofs.take.fault.Goals as goal

pub handle-requires : goal.handle-requires
handle-requires c =
    can_handle c.args.setup.now c.args.code.now c.args.me c.args.state.now c.fault_of-message.result
    (mode.Blocked c.args.block) (c.args.state.now.instructions + 1) c.args.state.now.handled c.args.state.now.deferred
    c.args.state.now.fronts c.requires.node c.requires.ready
    (may_instruct_sent (shown_of c.args.setup.now c.args.code.now c.args.me c.args.state.now) c.requires.enabled)
    (subst (λ (m : Message). IsReadyFor (shown_of c.args.setup.now c.args.code.now c.args.me c.args.state.now) m)
    (sym c.fault_of-message.ensures)
    (c.nodes_are_ready_for_handlers.ensures.faults (shown_of c.args.setup.now c.args.code.now c.args.me c.args.state.now)
    c.args.store c.args.block c.requires.node.well c.requires.node.replayed c.requires.block))
    refl refl

pub returns-clause-makes : goal.returns-clause-makes
returns-clause-makes c =
    (fault_made c.args.setup.now c.args.code.now c.args.me c.args.state.now c.handle.new.state c.args.store c.args.block
    c.fault_of-message.result c.handler_events_are_made.ensures.faults c.requires.node c.requires.enabled
    c.requires.block c.requires.refused c.fault_of-message.ensures c.handle.ensures).makes

pub returns-clause-node : goal.returns-clause-node
returns-clause-node c =
    (fault_made c.args.setup.now c.args.code.now c.args.me c.args.state.now c.handle.new.state c.args.store c.args.block
    c.fault_of-message.result c.handler_events_are_made.ensures.faults c.requires.node c.requires.enabled
    c.requires.block c.requires.refused c.fault_of-message.ensures c.handle.ensures).node
