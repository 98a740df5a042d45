use Rattle.std.proofs.Common.{◌≡◌, take}
use Rattle.std.specs.List.{flat_map}
use Rattle.teapot_meaning.specs.Names.{errors_of}
use Rattle.teapot_meaning.proofs.errors.+errors.Given as goal

abbrev pub invariant-errors_in-loop-s : goal.invariant-errors_in-loop-s
invariant-errors_in-loop-s l = l.names ≡ flat_map errors_of (take l.s-index l.stmts)
