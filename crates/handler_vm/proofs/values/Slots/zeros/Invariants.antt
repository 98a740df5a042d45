use Rattle.std.proofs.Common.{◌≡◌, ◌++◌, take}
use Rattle.handler_code.specs.Doors.{zeros_of}
use Rattle.handler_vm.proofs.values.Slots.zeros.Given as goal

abbrev pub invariant-loop-local : goal.invariant-loop-local
invariant-loop-local l = l.self ≡ l.initial.self ++ zeros_of (take l.local-index l.locals)
