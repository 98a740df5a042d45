use Rattle.std.specs.Prelude.{◌≡◌, ◌-◌}
use Rattle.event_masks.specs.Told.{true_at}
use Rattle.node_parts.specs.Truths.{truths}
use Rattle.event_masks.proofs.masks.nth_told.Given as goal

abbrev pub invariant-loop-passed : goal.invariant-loop-passed
invariant-loop-passed l = true_at (truths l.places l.word) l.k ≡ true_at (truths l.places l.left) (l.k - l.passed)
