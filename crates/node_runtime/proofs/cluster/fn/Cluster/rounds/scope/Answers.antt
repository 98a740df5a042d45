use mir.Syntax.{named}
use denote.Param.{param}
use denote.Param.Send.{IsSync, arg_send, param_send, param_sync, shr_send}
use denote.Ref.{NamedLft}
use Rattle.node_runtime.specs.contracts.cluster.Cluster as cluster
use Rattle.node_runtime.proofs.Sharing.{captured_send, cluster_sync, number_send}
use Rattle.node_runtime.proofs.cluster.fn.Cluster.rounds.scope.Goals as goal

-- A worker captures references to the cluster, the runtime and the gate, and three numbers. The lifetime of the cluster is
-- written out, since `search` would compare clusters at an open one for too long.
pub spawn-requires-send-F : goal.spawn-requires-send-F
spawn-requires-send-F g c κs within =
    let bounds = c.requires.1.1.1 in
    let nodes : NamedLft = record { mir = named 6; lft = κs.1.1.1.1.1.1.0 } in
    let shared : IsSync (cluster.the_row nodes (param 0 g.row.N) g.N.Naming) =
    cluster_sync nodes (param 0 g.row.N) g.N.Naming (param_send 0 g.row.N bounds.0) in
    let gate : IsSync (param 1 g.row.G) = param_sync 1 g.row.G bounds.2 in
    let runtime : IsSync (param 2 g.row.R) = param_sync 2 g.row.R bounds.3 in
    search (number_send, param_send, arg_send, captured_send, shr_send, shared, gate, runtime) depth 14
