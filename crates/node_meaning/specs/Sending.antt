-- What a node has to hand out, and what becomes of it where a handler sends.
use Rattle.std.specs.Prelude.{ℕ, ◌+◌, List, [], ◌∷◌, ◌++◌, slice_index, slice_set}
use Rattle.tw_base.specs.declared.message.Message.{Message}
use Rattle.dsm_runs.specs.Messages.{place}

-- the messages that wait, the oldest first, and the number of the next message of each wire, by its place
pub record Outbox : Type 0 where
  pub waiting : List Message
  pub posted : List ℕ

-- the message as the event of this stamp sends it
abbrev pub stamped : ℕ → Message → Message
stamped stamp m = record m { stamp = stamp }

-- the number of the next message of the wire of this one
abbrev pub next_number : List ℕ → Message → ℕ
next_number posted m = slice_index posted (place m.to m.chan)

-- the message as it waits: it has the number and the stamp
abbrev pub as_posted : ℕ → List ℕ → Message → Message
as_posted stamp posted m = record m { number = next_number posted m; stamp = stamp }

abbrev pub with_posted : List ℕ → Message → List ℕ
with_posted posted m = slice_set posted (place m.to m.chan) (next_number posted m + 1)

abbrev pub post_one : ℕ → Message → Outbox → Outbox
post_one stamp m o = record { waiting = o.waiting ++ as_posted stamp o.posted m ∷ []; posted = with_posted o.posted m }

-- the messages are posted in order
abbrev pub post_all : ℕ → List Message → Outbox → Outbox
post_all stamp [] o = o
post_all stamp (m ∷ ms) o = post_all stamp ms (post_one stamp m o)
