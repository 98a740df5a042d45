use Rattle.std.proofs.Common.{◌≡◌, ◌&&◌, not, subst}
use Rattle.dsm_runs.specs.Tests.{has_eligible, may_handle}
use Rattle.node_meaning.specs.Nodes.{Shown, tested}
use Rattle.node_core.proofs.node.Node.takes_messages.Goals as goal

pub returns : goal.returns
returns c =
    subst (λ (n : Shown). c.takes_messages.result ≡ (may_handle n.setup (tested n) && not (has_eligible n.parts.deferred)))
    c.self.view_is
    c.takes_messages.ensures
