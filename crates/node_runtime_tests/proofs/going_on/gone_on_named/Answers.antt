use Rattle.node_runtime.proofs.Ran.{gathered_of}
use Rattle.node_runtime_tests.proofs.going_on.gone_on_named.Goals as goal

pub returns : goal.returns
returns g c =
    let was = c.in_ok-still.ensures in
    gathered_of c.gather.result c.in_ok-still.still c.settle.new.self g.N.Naming.setup g.N.Naming.code
    c.in_ok-settle.ensures.settled was.setup was.code was.state c.gather.ensures.gathered
