use Rattle.std.proofs.Common.{◌≡◌, ◌++◌, map, take}
use Rattle.teapot_rules.proofs.names.add_args.Given as goal

abbrev pub invariant-loop-a : goal.invariant-loop-a
invariant-loop-a l = l.names ≡ l.initial.names ++ map (λ n. (n, l.line)) (take l.a-index l.args)
