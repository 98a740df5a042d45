use Rattle.std.proofs.Common.{◌≡◌, ◌+◌, ◌++◌, length, map}
use Rattle.std.specs.Vec.Iter.{into_iter_items}
use Rattle.tw_wire.specs.declared.ends.Ends.{Ends}
use Rattle.tw_wire.proofs.make.paired.Given as goal

-- the ends so far and those that are left are all
abbrev pub invariant-loop : goal.invariant-loop
invariant-loop l = record {
  sends : map (λ (e : Ends). e.sends.items) l.ends.items ++ into_iter_items l.sends ≡ l.fn.sends;
  recvs : map (λ (e : Ends). e.recvs.items) l.ends.items ++ into_iter_items l.recvs ≡ l.fn.recvs.items;
  sends_left : length (into_iter_items l.sends) + l.counter ≡ length l.fn.recvs.items;
  recvs_left : length (into_iter_items l.recvs) + l.counter ≡ length l.fn.recvs.items;
}
