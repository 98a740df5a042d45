use Rattle.std.proofs.Common.{◌≡◌, ◌++◌, length, map}
use Rattle.teapot_parse.specs.Building.{param_at}
use Rattle.teapot_parse.proofs.build.params_at.Given as goal

abbrev pub invariant-typed : goal.invariant-typed
invariant-typed l = map (param_at l.line) l.left ++ l.params ≡ map (param_at l.line) l.initial.left

abbrev pub decreases-typed : goal.decreases-typed
decreases-typed l = length l.left
