use Rattle.std.proofs.Common.{◌≡◌, ◌++◌, take}
use Rattle.suspend_split.specs.Drafts.{rests_after}
use Rattle.suspend_split.proofs.handlers.add_rests.Given as goal

abbrev pub invariant-loop-i : goal.invariant-loop-i
invariant-loop-i l = l.rests ≡ l.initial.rests ++ rests_after l.door l.at (take l.i l.ops)
