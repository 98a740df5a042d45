use Rattle.std.specs.Prelude.{◌≡◌, ◌+◌, length}
use Rattle.event_masks.specs.Told.{told_below}
use Rattle.event_masks.proofs.words.pick.Given as goal

abbrev pub invariant-loop-number : goal.invariant-loop-number
invariant-loop-number l = l.k ≡ length (told_below (length l.words) l.words l.number) + l.more
