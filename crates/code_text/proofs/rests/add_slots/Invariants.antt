use Rattle.std.proofs.Common.{◌≡◌, ◌++◌}
use Rattle.std.specs.List.{flat_map, range_with_len}
use Rattle.code_text.specs.Texts.{slot_text}
use Rattle.code_text.proofs.rests.add_slots.Given as goal

abbrev pub invariant-loop-slot : goal.invariant-loop-slot
invariant-loop-slot l = l.out ≡ l.initial.out ++ flat_map (slot_text l.live) (range_with_len 0 l.slot)
