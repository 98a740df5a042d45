use Rattle.std.proofs.Common.{◌≡◌, ◌++◌, length, map}
use Rattle.teapot_parse.specs.Building.{kept}
use Rattle.teapot_parse.proofs.build.all_kept.Given as goal

abbrev pub invariant-cuts : goal.invariant-cuts
invariant-cuts l = map kept l.left ++ l.trees ≡ map kept l.initial.left

abbrev pub decreases-cuts : goal.decreases-cuts
decreases-cuts l = length l.left
