use Rattle.std.proofs.Common.{◌≡◌, ◌+◌, ◌*◌, ◌^◌, ◌<◌, subst}
use Rattle.node_meaning.specs.Nodes.{Shown, node_tests}
use Rattle.node_parts.specs.Truths.{truths}
use Rattle.node_core.proofs.node.Node.tests.Goals as goal

pub returns-clause-tests : goal.returns-clause-tests
returns-clause-tests c =
    subst (λ (n : Shown). truths (2 + 2 * n.setup.shape.nodes) c.all_tests.result ≡ node_tests n) c.self.view_is
    (c.all_tests.ensures.tests c.self.inside.code.now c.self.inside.me)

pub returns-clause-small : goal.returns-clause-small
returns-clause-small c =
    subst (λ (n : Shown). c.all_tests.result < 2 ^ (2 + 2 * n.setup.shape.nodes)) c.self.view_is c.all_tests.ensures.small
