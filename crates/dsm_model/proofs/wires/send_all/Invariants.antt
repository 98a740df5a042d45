use Rattle.std.proofs.Common.{◌≡◌, ℕ, take}
use Rattle.tw_base.specs.declared.message.Chan.{Chan}
use Rattle.dsm_model.specs.Posts.{HasSent}
use Rattle.dsm_model.specs.Views.{rooms_of}
use Rattle.dsm_model.proofs.wires.send_all.Given as goal

abbrev pub invariant-loop-message : goal.invariant-loop-message
invariant-loop-message l = HasSent l.initial.outboxes l.outboxes (take l.message-index l.sends)
    × ((f t : ℕ) (c : Chan) → rooms_of l.outboxes f t c ≡ rooms_of l.initial.outboxes f t c)
