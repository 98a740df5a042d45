use Rattle.std.proofs.Common.{◌≡◌, ◌+◌, List, length, drop, map, ◌++◌}
use Rattle.std.specs.Vec.Iter.{into_iter_items, into_iter_len}
use Rattle.tw_base.specs.declared.message.Message.{Message}
use Rattle.tw_wire.specs.Sides.{Sending, Receiving}
use Rattle.tw_wire.specs.Joined.{joined, lists}
use Rattle.tw_wire.proofs.close.close_row.Given as goal

-- the ends that are left are those of the wires that are left, and what they give completes the whole
abbrev pub invariant-loop-wire : goal.invariant-loop-wire
invariant-loop-wire g l = record {
  count : length l.left.items ≡ l.wire-index;
  sends_left : into_iter_len l.sends + l.wire-index ≡ length l.wires;
  recvs_left : into_iter_len l.recvs + l.wire-index ≡ length l.wires;
  sends : map (λ (s : Sending). s.wire) (into_iter_items l.sends) ≡ drop l.wire-index l.wires;
  recvs : map (λ (r : Receiving). r.wire) (into_iter_items l.recvs) ≡ drop l.wire-index l.wires;
  completes : (ls : List (List Message))
      → map (λ (s : Sending). s.sent) (into_iter_items l.sends) ≡ joined
      (map (λ (r : Receiving). r.taken) (into_iter_items l.recvs)) ls
      → map (λ (s : Sending). s.sent) l.fn.sends.items ≡ joined (map (λ (r : Receiving). r.taken) l.fn.recvs.items)
      (lists l.left.items ++ ls);
}
