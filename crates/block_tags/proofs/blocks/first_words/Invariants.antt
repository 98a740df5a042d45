use Rattle.std.proofs.Common.{◌≡◌, map, drop}
use Rattle.std.specs.List.{range_with_len}
use Rattle.block_tags.specs.Copies.{init_value}
use Rattle.block_tags.proofs.blocks.first_words.Given as goal

abbrev pub invariant-loop-at : goal.invariant-loop-at
invariant-loop-at l = l.words.items ≡ map (init_value (drop l.at l.init)) (range_with_len 0 l.size)
