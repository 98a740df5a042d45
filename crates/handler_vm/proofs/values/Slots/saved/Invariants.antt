use Rattle.std.proofs.Common.{◌≡◌}
use Rattle.handler_vm.proofs.Saving.{done}
use Rattle.handler_vm.proofs.values.Slots.saved.Given as goal

abbrev pub invariant-loop-k : goal.invariant-loop-k
invariant-loop-k l = l.values ≡ done l.rest l.own l.k
