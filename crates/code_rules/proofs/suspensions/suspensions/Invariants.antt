use Rattle.std.proofs.Common.{◌≡◌, length, take}
use Rattle.code_rules.specs.Serving.{AreCounted}
use Rattle.code_rules.proofs.suspensions.suspensions.Given as goal

abbrev pub invariant-loop-op : goal.invariant-loop-op
invariant-loop-op l = (length l.counts ≡ l.rests) × AreCounted (take l.op-index l.ops) l.counts
