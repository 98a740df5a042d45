use Rattle.std.proofs.Common.{◌≡◌, map}
use Rattle.std.specs.List.{range_with_len}
use Rattle.journal.specs.Gathered.{told_by}
use Rattle.journal.proofs.gathered.words_of.Given as goal

abbrev pub invariant-loop-address : goal.invariant-loop-address
invariant-loop-address g l =
    l.words ≡ map (told_by (g.N.Nodes.shape l.nodes) (g.N.Nodes.tag l.nodes) (g.N.Nodes.word l.nodes))
    (range_with_len 0 l.address)
