use Rattle.code_text.specs.Texts.{slot_text}
use Rattle.printed_text.proofs.Growing.{range_grown}
use Rattle.code_text.proofs.rests.add_slots.Goals as goal

pub loop-slot-preserved : goal.loop-slot-preserved
loop-slot-preserved c =
    range_grown (slot_text c.args.live) c.args.out.now c.loop-slot.out c.add_slot.new.out c.loop-slot.slot
    c.loop-slot.invariant c.in_ok-add_slot.ensures
