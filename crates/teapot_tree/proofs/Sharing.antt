-- Threads may share trees.
use denote.Param.Send.{IsSync, sendable}
use Rattle.sqlite_items.proofs.boxed.Boxed.TheSendSync as boxed
use Rattle.tw_base.proofs.listed.Listed.TheSendSync as listed
use Rattle.tw_base.proofs.name.Name.TheSendSync as name
use Rattle.tw_base.proofs.node_set.NodeSet.TheSendSync as nodes
use Rattle.tw_base.proofs.value.Tag.TheSendSync as tag
use Rattle.teapot_tree.proofs.expr.Op.TheSendSync as op
use Rattle.teapot_tree.proofs.protocol.Param.TheSendSync as param
use Rattle.teapot_tree.proofs.protocol.Start.TheSendSync as start
use Rattle.teapot_tree.proofs.protocol.MessageDecl.TheSendSync as message
use Rattle.teapot_tree.proofs.expr.Expr.TheLaws.TheKnot as expr_knot
use Rattle.teapot_tree.proofs.stmt.Do.TheLaws.TheKnot as stmt_knot
use Rattle.teapot_tree.specs.contracts.expr.Expr as expr
use Rattle.teapot_tree.specs.contracts.stmt.Stmt as stmt
use Rattle.teapot_tree.specs.contracts.protocol.Handler as handler
use Rattle.teapot_tree.specs.contracts.protocol.State as state
use Rattle.teapot_tree.specs.contracts.protocol.Protocol as protocol
use Rattle.teapot_tree.specs.contracts.checked.Checked as checked

pub expr_sync : IsSync expr.the_row
expr_sync = search (sendable, expr_knot.sync-Expr, name.the_sync, boxed.the_sync) depth 30 fits 50000

ruleset parts = (
  sendable,
  expr_knot.sync-Expr,
  listed.the_sync,
  expr_sync,
  name.the_sync,
  nodes.the_sync,
  tag.the_sync,
  op.the_sync,
  boxed.the_sync,
)

pub stmt_sync : IsSync stmt.the_field.row
stmt_sync =
    stmt_knot.sync-Stmt
    (search parts depth 30 fits 50000)
    (search parts depth 30 fits 50000)
    (search parts depth 30 fits 50000)
    (search parts depth 30 fits 50000)
    (search parts depth 30 fits 50000)
    (search parts depth 30 fits 50000)
    (search parts depth 30 fits 50000)
    (search parts depth 30 fits 50000)

pub handler_sync : IsSync handler.the_row
handler_sync = search (sendable, listed.the_sync, name.the_sync, param.the_sync, stmt_sync) depth 20

pub state_sync : IsSync state.the_row
state_sync = search (sendable, listed.the_sync, name.the_sync, param.the_sync, handler_sync) depth 20

pub protocol_sync : IsSync protocol.the_row
protocol_sync = search (sendable, listed.the_sync, name.the_sync, param.the_sync, message.the_sync, start.the_sync, state_sync)
    depth 20

pub protocol_field_sync : IsSync protocol.the_field.row
protocol_field_sync = search (
  sendable,
  listed.the_sync,
  name.the_sync,
  param.the_sync,
  message.the_sync,
  start.the_sync,
  state_sync,
) depth 20

pub checked_sync : IsSync checked.the_row
checked_sync = search (sendable, protocol_field_sync) depth 8
