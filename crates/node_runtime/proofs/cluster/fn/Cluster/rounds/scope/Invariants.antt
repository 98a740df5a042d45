use Rattle.std.proofs.Common.{◌+◌, ◌-◌, ◌≤◌, vec_len, vec_capacity}
use Rattle.node_runtime.proofs.cluster.fn.Cluster.rounds.scope.Given as goal

-- there is room for the workers that are still to be started
abbrev pub invariant-loop-worker : goal.invariant-loop-worker
invariant-loop-worker g l = vec_len l.started + (l.worker-end - l.worker) ≤ vec_capacity l.started
