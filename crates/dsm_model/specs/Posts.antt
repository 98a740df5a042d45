-- What is taken off wires, and what is put on them.
use Rattle.std.specs.Prelude.{◌≡◌, ℕ, ◌+◌, ◌≤◌, ◌&&◌, if◌then◌else◌, nat_eq, length, List, [], ◌++◌, Option, option_to_list}
use Rattle.std.specs.Prelude.{slice_get}
use Rattle.std.specs.List.{filter}
use Rattle.tw_base.specs.Lists.{Each}
use Rattle.tw_base.specs.declared.message.Chan.{Chan}
use Rattle.tw_base.specs.declared.message.Message.{Message}
use Rattle.dsm_model.specs.declared.outbox.Outbox.{Outbox}
use Rattle.dsm_runs.specs.Messages.{chan_eq, on_wire, posted}
use Rattle.dsm_model.specs.Views.{AllRoom, HasRoom, next_in, nexts_of, queue_of, room_in, rooms_of, wires_of}

-- the outbox has lost what stood at the front of one wire
pub record HasDropped (old new : Outbox) (to : ℕ) (chan : Chan) (front : Option Message) : Type 0 where
  pub is_front : front ≡ slice_get (queue_of old to chan) 0
  pub room : HasRoom new
  pub queues : (t : ℕ) (c : Chan) → queue_of old t c ≡ (if nat_eq t to && chan_eq c chan then option_to_list front else [])
      ++ queue_of new t c
  pub next : (t : ℕ) (c : Chan) → next_in new t c ≡ next_in old t c
  pub rooms : (t : ℕ) (c : Chan) → room_in new t c ≡ room_in old t c

-- the outbox has the same messages, and as much room or more
pub record HasMadeRoom (old new : Outbox) : Type 0 where
  pub room : HasRoom new
  pub queues : (t : ℕ) (c : Chan) → queue_of new t c ≡ queue_of old t c
  pub next : (t : ℕ) (c : Chan) → next_in new t c ≡ next_in old t c
  pub more : (t : ℕ) (c : Chan) → room_in old t c ≤ room_in new t c

-- the outbox has these messages from `me` too, with their numbers
pub record HasPosted (me : ℕ) (old new : Outbox) (sends : List Message) : Type 0 where
  pub queues : (t : ℕ) (c : Chan) → queue_of new t c ≡ queue_of old t c ++ posted (next_in old t c) me t c sends
  pub next : (t : ℕ) (c : Chan) → next_in new t c ≡ next_in old t c + length (filter (on_wire me t c) sends)

-- the wires have lost what the front of one wire was
pub record HasTaken (old new : List Outbox) (from to : ℕ) (chan : Chan) (front : Option Message) : Type 0 where
  pub is_front : front ≡ slice_get (wires_of old from to chan) 0
  pub wires : (f t : ℕ) (c : Chan) → wires_of old f t c ≡ (if nat_eq t to && (nat_eq f from && chan_eq c chan)
      then option_to_list front else []) ++ wires_of new f t c
  pub next : (f t : ℕ) (c : Chan) → nexts_of new f t c ≡ nexts_of old f t c
  pub rooms : (f t : ℕ) (c : Chan) → rooms_of old f t c ≤ rooms_of new f t c
  pub size : length new ≡ length old
  pub room : AllRoom new

-- the wires have these messages too
pub record HasSent (old new : List Outbox) (sends : List Message) : Type 0 where
  pub wires : (f t : ℕ) (c : Chan) → wires_of new f t c ≡ wires_of old f t c ++ posted (nexts_of old f t c) f t c sends
  pub next : (f t : ℕ) (c : Chan) → nexts_of new f t c ≡ nexts_of old f t c + length (filter (on_wire f t c) sends)
  pub size : length new ≡ length old
  pub room : AllRoom new

-- the wires have the same messages, and as much room or more
pub record HaveMadeRoom (old new : List Outbox) : Type 0 where
  pub same : HasSent old new []
  pub more : (f t : ℕ) (c : Chan) → rooms_of old f t c ≤ rooms_of new f t c

-- the wires of these messages have room for as many more
abbrev pub HavePlaces : List Outbox → ℕ → List Message → Type 0
HavePlaces outboxes count sends =
    Each (λ m. length (wires_of outboxes m.from m.to m.chan) + count ≤ rooms_of outboxes m.from m.to m.chan) sends

-- all of these messages can be put on the wires
abbrev pub CanSend : List Outbox → List Message → Type 0
CanSend outboxes sends = HavePlaces outboxes (length sends) sends
