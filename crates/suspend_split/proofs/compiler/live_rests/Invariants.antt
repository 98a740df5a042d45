use Rattle.std.proofs.Common.{◌≡◌, take}
use Rattle.std.specs.Prelude.{map}
use Rattle.suspend_split.specs.Drafts.{with_live}
use Rattle.suspend_split.proofs.compiler.live_rests.Given as goal

abbrev pub invariant-loop-rest : goal.invariant-loop-rest
invariant-loop-rest l = l.all ≡ map (with_live l.table) (take l.rest-index l.rests)
