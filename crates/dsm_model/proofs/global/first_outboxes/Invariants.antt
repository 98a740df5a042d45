use Rattle.std.proofs.Common.{◌≡◌, ℕ, length, []}
use Rattle.tw_base.specs.declared.message.Chan.{Chan}
use Rattle.dsm_model.specs.Views.{AllRoom, wires_of, nexts_of}
use Rattle.dsm_model.proofs.global.first_outboxes.Given as goal

abbrev pub invariant-loop-made : goal.invariant-loop-made
invariant-loop-made l = record {
  count : length l.outboxes.items ≡ l.made;
  room : AllRoom l.outboxes.items;
  empty : (f t : ℕ) (c : Chan) → wires_of l.outboxes.items f t c ≡ [];
  next : (f t : ℕ) (c : Chan) → nexts_of l.outboxes.items f t c ≡ 0;
}
