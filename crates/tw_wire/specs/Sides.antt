-- What a clause sees of the two ends of a wire.
use Rattle.std.specs.Prelude.{ℕ, ◌+◌, ◌-◌, ◌^◌, min, List, [], ◌∷◌, ◌++◌}
use Rattle.std.specs.Global.{Global}
use Rattle.crossbeam_queue.specs.SegTies.{SegId}
use Rattle.tw_base.specs.declared.message.Message.{Message}
use Rattle.tw_wire.specs.declared.route.Route.{Route}

-- the wire's name, and all that was pushed
pub record Sending : Type 0 where
  pub route : Route
  pub wire : SegId Global
  pub sent : List Message

-- the wire's name, all that was taken, and how often it was looked at in vain
pub record Receiving : Type 0 where
  pub route : Route
  pub wire : SegId Global
  pub taken : List Message
  pub looks : ℕ

-- the ends of a new wire
abbrev pub new_sending : Route → SegId Global → Sending
new_sending r w = record { route = r; wire = w; sent = [] }

abbrev pub new_receiving : Route → SegId Global → Receiving
new_receiving r w = record { route = r; wire = w; taken = []; looks = 0 }

-- one look more, as far as the number goes
abbrev pub one_more : ℕ → ℕ
one_more looks = min (looks + 1) (2 ^ 64 - 1)

-- the pass after a push, a pop that took, and a pop in vain
abbrev pub with_sent : Sending → Message → Sending
with_sent s m = record s { sent = s.sent ++ m ∷ [] }

abbrev pub with_taken : Receiving → Message → Receiving
with_taken r m = record r { taken = r.taken ++ m ∷ [] }

abbrev pub with_look : Receiving → Receiving
with_look r = record r { looks = one_more r.looks }
