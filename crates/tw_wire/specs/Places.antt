-- Where a wire stands among others: in a row for each sender, by receiver and channel. Its receiving end stands in a
-- column for each receiver, by sender and channel.
use Rattle.std.specs.Prelude.{ℕ, ◌+◌, ◌*◌, List, Option, slice_get}
use Rattle.std.specs.Option.{option_and_then}
use Rattle.std.specs.Global.{Global}
use Rattle.crossbeam_queue.specs.SegTies.{SegId}
use Rattle.tw_base.specs.declared.message.Chan.{Chan}
use Rattle.tw_base.specs.declared.message.Chan.TheVariants.{Zero, One}
use Rattle.tw_wire.specs.declared.route.Route.{Route}

abbrev pub code : Chan → ℕ
code Zero = 0
code One = 1

-- the place of a wire in a row of wires, by the node at its other end and the channel
abbrev pub place : ℕ → Chan → ℕ
place t c = 2 * t + code c

abbrev pub route : ℕ → ℕ → Chan → Route
route f t c = record { from = f; to = t; chan = c }

-- what stands in row k for node j and this channel
abbrev pub item_at : {A : Type 0} → List (List A) → ℕ → ℕ → Chan → Option A
item_at rows k j c = option_and_then (λ row. slice_get row (place j c)) (slice_get rows k)

-- the names of all wires, a row for each sender
abbrev pub Names : Type 0
Names = List (List (SegId Global))

-- the name of the wire from f to t on channel c
abbrev pub name_at : Names → ℕ → ℕ → Chan → Option (SegId Global)
name_at names f t c = item_at names f t c
