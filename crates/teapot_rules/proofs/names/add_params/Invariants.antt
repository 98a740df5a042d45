use Rattle.std.proofs.Common.{◌≡◌, ◌++◌, map, take}
use Rattle.teapot_rules.proofs.names.add_params.Given as goal

abbrev pub invariant-loop-a : goal.invariant-loop-a
invariant-loop-a l = l.names ≡ l.initial.names ++ map (λ a. (a.name, a.line)) (take l.a-index l.params)
