use Rattle.std.proofs.Common.{◌≡◌, map, take}
use Rattle.teapot_tree.specs.Bare.{bare_handler}
use Rattle.teapot_tree.proofs.compare.same_handlers.Given as goal

abbrev pub invariant-loop-at : goal.invariant-loop-at
invariant-loop-at l = map bare_handler (take l.at l.a) ≡ map bare_handler (take l.at l.b)
