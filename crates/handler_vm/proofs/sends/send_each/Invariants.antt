use Rattle.std.proofs.Common.{◌≡◌, ◌++◌, take}
use Rattle.std.specs.Prelude.{map}
use Rattle.tw_base.specs.NodeSets.{members_from}
use Rattle.handler_vm.specs.Sending.{addressed}
use Rattle.handler_vm.proofs.sends.send_each.Given as goal

abbrev pub invariant-loop-k : goal.invariant-loop-k
invariant-loop-k l = record {
  sent : l.unsent.sent ≡ l.initial.unsent.sent ++ map (addressed l.m) (members_from 0 (take l.k l.set));
  room : l.unsent.room ≡ l.initial.unsent.room;
}
