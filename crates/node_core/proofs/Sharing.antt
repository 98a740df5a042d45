-- A node may pass from thread to thread.
use denote.Ref.{NamedLft}
use denote.Param.Send.{IsSend, sendable, view_send}
use denote.Param.SendFields.{declared_send}
use Rattle.tw_base.proofs.node.NodeId.TheSendSync as node_id
use Rattle.dsm_runs.proofs.Sharing.{setup_sync}
use Rattle.handler_code.proofs.Sharing.{code_sync}
use Rattle.node_core.proofs.state.State.TheSendSync as state
use Rattle.node_core.specs.contracts.node.Node as node
use Rattle.node_core.specs.contracts.node.Node.TheInside as node_inside

pub node_send : (a : NamedLft) → IsSend (node.the_row a)
node_send a =
    view_send _ _ _ _ _ (declared_send (node_inside.the_type a) (
      search (sendable, setup_sync) depth 8,
      (
        search (sendable, code_sync) depth 8,
        (
          search (sendable, node_id.the_send) depth 8,
          (search (sendable, state.the_send) depth 8, tt),
        ),
      ),
    ))
