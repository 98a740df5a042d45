use Rattle.std.proofs.Common.{◌≡◌, ◌-◌, ◌^◌}
use Rattle.handler_vm.proofs.Going.{Underway}
use Rattle.handler_vm.proofs.running.Running.go.Given as goal

abbrev pub invariant-ops : goal.invariant-ops
invariant-ops l = record {
  underway : Underway l.p l.code l.initial.self l.initial.unsent.sent l.initial.conts l.self l.unsent.sent l.conts l.unsent.room;
  room : l.unsent.room ≡ l.initial.unsent.room;
}

abbrev pub decreases-ops : goal.decreases-ops
decreases-ops l = 2 ^ 64 - l.self.ops
