use Rattle.std.proofs.Common.{◌≡◌, length}
use Rattle.handler_vm.specs.Tables.{IsRight}
use Rattle.handler_vm.proofs.doors.places_of.Given as goal

abbrev pub invariant-loop-index : goal.invariant-loop-index
invariant-loop-index l = (length l.places ≡ l.index) × IsRight l.fn.p l.fn.code l.kinds l.places
