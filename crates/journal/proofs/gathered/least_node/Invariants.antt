use Rattle.std.proofs.Common.{◌≡◌, ◌-◌, find}
use Rattle.std.specs.List.{range_with_len}
use Rattle.block_tags.specs.Copies.{permits}
use Rattle.journal.specs.Gathered.{least_with}
use Rattle.journal.proofs.gathered.least_node.Given as goal

abbrev pub invariant-loop-number : goal.invariant-loop-number
invariant-loop-number g l =
    let n = (g.N.Nodes.shape l.nodes).nodes in
    least_with n (λ i. g.N.Nodes.tag l.nodes i l.block) l.store
    ≡ find (λ i. permits (g.N.Nodes.tag l.nodes i l.block) l.store) (range_with_len l.number (n - l.number))
