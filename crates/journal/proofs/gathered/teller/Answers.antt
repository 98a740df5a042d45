use Rattle.std.proofs.Common.{ℕ, ◌+◌, ◌<◌, Bool, true, false, sym, arith}
use Rattle.block_tags.specs.Copies.{permits}
use Rattle.journal.proofs.Seeking.{within}
use Rattle.journal.proofs.gathered.teller.Goals as goal

pub returns-in-Some-clause-node : goal.returns-in-Some-clause-node
returns-in-Some-clause-node g c =
    let nodes = c.args.nodes.now in
    let n = (g.N.Nodes.shape nodes).nodes in
    let p : ℕ → Bool = λ i. permits (g.N.Nodes.tag nodes i c.args.block) true in
    let below : c.in-Some.writer < 0 + n = within p 0 n c.in-Some.writer (sym c.in-Some.ensures) in
    omega (arith, below)

pub returns-in-Some-least_node-clause-node : goal.returns-in-Some-least_node-clause-node
returns-in-Some-least_node-clause-node g c =
    let nodes = c.args.nodes.now in
    let n = (g.N.Nodes.shape nodes).nodes in
    let p : ℕ → Bool = λ i. permits (g.N.Nodes.tag nodes i c.args.block) false in
    let below : c.in-Some-least_node.reader < 0 + n = within p 0 n c.in-Some-least_node.reader
    (sym c.in-Some-least_node.ensures) in
    omega (arith, below)
