use Rattle.std.proofs.Common.{◌≡◌, ◌++◌, drop}
use Rattle.compiled_meaning.specs.Compiled.{all_code}
use Rattle.suspend_split.proofs.exprs.add_exprs.Given as goal

abbrev pub invariant-loop-e : goal.invariant-loop-e
invariant-loop-e l = l.ops ++ all_code l.p l.names (drop l.e-index l.exprs) ≡ l.initial.ops ++ all_code l.p l.names l.exprs
