use Rattle.std.proofs.Common.{◌≡◌, [], take}
use Rattle.std.specs.List.{fold}
use Rattle.teapot_meaning.specs.Names.{noted}
use Rattle.teapot_meaning.proofs.errors.numbered.Given as goal

abbrev pub invariant-loop-name : goal.invariant-loop-name
invariant-loop-name l = l.names ≡ fold noted [] (take l.name-index l.all)
