-- All wires of n nodes, and the ends of each node.
use Rattle.std.specs.Prelude.{◌≡◌, ◌<◌, ℕ, ◌+◌, ◌*◌, ◌++◌, All, List, [], length, slice_get, slice_index_or, Option, Some, None}
use Rattle.std.specs.Option.{option_and_then}
use Rattle.std.specs.Global.{Global}
use Rattle.crossbeam_queue.specs.SegTies.{SegId}
use Rattle.tw_base.specs.declared.message.Chan.{Chan}
use Rattle.tw_base.specs.declared.message.Message.{Message}
use Rattle.tw_wire.specs.declared.route.Route.{Route}
use Rattle.tw_wire.specs.Places.{place, route, Names, name_at}
use Rattle.tw_wire.specs.Sides.{Sending, Receiving}

-- among these wires the one of this route has this name
abbrev pub IsNamed : Names → Route → SegId Global → Type 0
IsNamed names r wire = name_at names r.from r.to r.chan ≡ Some wire

-- n rows of 2 n names
pub record AreNames (n : ℕ) (names : Names) : Type 0 where
  pub rows : length names ≡ n
  pub each : All (λ row. length row ≡ 2 * n) names

-- what a clause sees of the ends of one node: its sending passes, by receiver and channel, and its receiving ones, by
-- sender and channel
pub record EndsShown : Type 0 where
  pub sends : List Sending
  pub recvs : List Receiving

-- they are those of node me on these wires
pub record AreEndsOf (n : ℕ) (names : Names) (me : ℕ) (e : EndsShown) : Type 0 where
  pub outs : (length e.sends ≡ 2 * n) × ((t : ℕ) (c : Chan) (s : Sending) → slice_get e.sends (place t c) ≡ Some s
      → (s.route ≡ route me t c) × (name_at names me t c ≡ Some s.wire))
  pub ins : (length e.recvs ≡ 2 * n) × ((f : ℕ) (c : Chan) (r : Receiving) → slice_get e.recvs (place f c) ≡ Some r
      → (r.route ≡ route f me c) × (name_at names f me c ≡ Some r.wire))

-- nothing was pushed, taken or looked for
pub record AreUnused (e : EndsShown) : Type 0 where
  pub outs : All (λ s. s.sent ≡ []) e.sends
  pub ins : All (λ r. (r.taken ≡ []) × (r.looks ≡ 0)) e.recvs

-- new wires, and the ends of each node by its number
pub record AreNew (n : ℕ) (names : Names) (ends : List EndsShown) : Type 0 where
  pub wires : AreNames n names
  pub count : length ends ≡ n
  pub each : (k : ℕ) (e : EndsShown) → slice_get ends k ≡ Some e → AreEndsOf n names k e × AreUnused e

-- each of these ends is that of its node
abbrev pub AreAllEnds : ℕ → Names → List EndsShown → Type 0
AreAllEnds n names ends = (length ends ≡ n) × ((k : ℕ) (e : EndsShown) → slice_get ends k ≡ Some e → AreEndsOf n names k e)

abbrev pub sent_of : Option Sending → List Message
sent_of None = []
sent_of (Some s) = s.sent

abbrev pub taken_of : Option Receiving → List Message
taken_of None = []
taken_of (Some r) = r.taken

-- what was pushed on the wire from f to t on channel c
abbrev pub sent_at : List EndsShown → ℕ → ℕ → Chan → List Message
sent_at ends f t c = sent_of (option_and_then (λ e. slice_get e.sends (place t c)) (slice_get ends f))

-- what t took from it
abbrev pub taken_at : List EndsShown → ℕ → ℕ → Chan → List Message
taken_at ends t f c = taken_of (option_and_then (λ e. slice_get e.recvs (place f c)) (slice_get ends t))

-- its list among those by sender, receiver and channel
abbrev pub left_at : ℕ → List (List Message) → ℕ → ℕ → Chan → List Message
left_at n left f t c = slice_index_or left (f * (2 * n) + place t c) []

-- on each wire what was taken and then what is left is what was sent
abbrev pub AreClosed : ℕ → List EndsShown → List (List Message) → Type 0
AreClosed n ends left =
    (length left ≡ 2 * n * n)
    × ((f t : ℕ) (c : Chan) → f < n → t < n → sent_at ends f t c ≡ taken_at ends t f c ++ left_at n left f t c)
