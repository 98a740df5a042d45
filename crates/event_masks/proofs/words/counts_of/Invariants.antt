use Rattle.std.proofs.Common.{◌≡◌, ◌≤◌, count_ones, map, take}
use Rattle.std.specs.List.{All}
use Rattle.event_masks.proofs.words.counts_of.Given as goal

abbrev pub invariant-loop-word : goal.invariant-loop-word
invariant-loop-word l = (l.counts.items ≡ map count_ones (take l.word-index l.words)) × All (λ c. c ≤ 32) l.counts.items
