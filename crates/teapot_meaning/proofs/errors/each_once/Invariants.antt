use Rattle.std.proofs.Common.{◌≡◌, [], take}
use Rattle.std.specs.List.{fold}
use Rattle.teapot_meaning.specs.Names.{noted}
use Rattle.teapot_meaning.proofs.errors.each_once.Given as goal

-- both hold what was noted so far
abbrev pub invariant-loop-name : goal.invariant-loop-name
invariant-loop-name l = record {
  seen : l.seen ≡ fold noted [] (take l.name-index l.all);
  names : l.names ≡ fold noted [] (take l.name-index l.all);
}
