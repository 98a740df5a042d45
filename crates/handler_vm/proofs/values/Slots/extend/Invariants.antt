use Rattle.std.proofs.Common.{◌≡◌, ◌++◌, take}
use Rattle.handler_vm.proofs.values.Slots.extend.Given as goal

abbrev pub invariant-loop-value : goal.invariant-loop-value
invariant-loop-value l = l.self ≡ l.initial.self ++ take l.value-index l.values
