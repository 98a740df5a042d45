use Rattle.std.proofs.Common.{◌≡◌, length}
use Rattle.teapot_parse.specs.Building.{built_on, built}
use Rattle.teapot_parse.proofs.build.built.Given as goal

abbrev pub invariant-lines : goal.invariant-lines
invariant-lines l = built_on l.parts l.left ≡ built l.initial.left

abbrev pub decreases-lines : goal.decreases-lines
decreases-lines l = length l.left
