use Rattle.std.proofs.Common.{take, length}
use Rattle.dsm_model.specs.Posts.{HaveMadeRoom, HavePlaces}
use Rattle.dsm_model.proofs.wires.reserve_all.Given as goal

abbrev pub invariant-loop-message : goal.invariant-loop-message
invariant-loop-message l = HaveMadeRoom l.initial.outboxes l.outboxes
    × HavePlaces l.outboxes (length l.sends) (take l.message-index l.sends)
