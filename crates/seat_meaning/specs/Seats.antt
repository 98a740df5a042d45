-- A node with the ends of its wires.
use Rattle.std.specs.Prelude.{◌≡◌, ℕ, ◌<◌, Bool, true, false, List, [], ◌∷◌, ◌++◌, Option, None, Some, length}
use Rattle.std.specs.Prelude.{option_to_list, slice_get}
use Rattle.std.specs.List.{slice_index_or}
use Rattle.tw_base.specs.declared.message.Chan.{Chan}
use Rattle.tw_base.specs.declared.message.Message.{Message}
use Rattle.handler_code.specs.declared.code.Code.{Code}
use Rattle.dsm_runs.specs.Replays.{Course}
use Rattle.dsm_runs.specs.Setups.{Setup}
use Rattle.node_meaning.specs.Nodes.{Shown, accepted_at, front_at, onto}
use Rattle.node_meaning.specs.Stands.{IsFit, StandsFor}
use Rattle.tw_wire.specs.Places.{Names, place}
use Rattle.tw_wire.specs.Sides.{Receiving}
use Rattle.tw_wire.specs.Wires.{AreEndsOf, EndsShown, sent_of, taken_of}

-- what a clause sees of a seat
pub record Seated : Type 0 where
  pub node : Shown
  pub ends : EndsShown
  pub closed : List Bool  -- at place f c: a message that does not fit closed the wire from node f on channel c to the seat

-- what was pushed on the wire to node t on channel c
abbrev pub pushed_at : EndsShown → ℕ → Chan → List Message
pushed_at e t c = sent_of (slice_get e.sends (place t c))

-- what was taken from the wire from node f on channel c
abbrev pub came_at : EndsShown → ℕ → Chan → List Message
came_at e f c = taken_of (slice_get e.recvs (place f c))

abbrev pub looks_of : Option Receiving → ℕ
looks_of None = 0
looks_of (Some r) = r.looks

-- how often that wire was looked at in vain
abbrev pub looks_at : Seated → ℕ → Chan → ℕ
looks_at s f c = looks_of (slice_get s.ends.recvs (place f c))

abbrev pub closed_at : Seated → ℕ → Chan → Bool
closed_at s f c = slice_index_or s.closed (place f c) false

-- the message is the one that the node may keep next of the wire from node f on channel c
pub record IsNext (n : Shown) (f : ℕ) (c : Chan) (m : Message) : Type 0 where
  pub fit : IsFit n.setup f n.me m
  pub chan : m.chan ≡ c
  pub number : m.number ≡ accepted_at n f c

-- What was taken from a wire: what the node took in from it, and where the wire is closed one message more, which the node
-- may not keep.
abbrev pub Came : Bool → Shown → ℕ → Chan → List Message → List Message → Type 0
Came false n f c took came = came ≡ took
Came true n f c took came = (m : Message) × (came ≡ took ++ m ∷ []) × ¬ IsNext n f c m

-- Node `number` of this setup and code, with the ends of its wires. For a course that it stands for, what was pushed on a
-- wire and then what waits for it is what was sent there; what was taken from a wire is what the course took and then what the
-- node keeps of it, and one message more where the wire is closed.
pub record IsSeated (common : Setup) (code : Code) (names : Names) (number : ℕ) (s : Seated) : Type 0 where
  pub same_setup : s.node.setup ≡ common
  pub same_code : s.node.code ≡ code
  pub me : s.node.me ≡ number
  pub wires : AreEndsOf common.shape.nodes names number s.ends
  pub places : length s.closed ≡ 16
  pub course : Course
  pub stands : StandsFor s.node course
  pub pushed : (t : ℕ) (c : Chan) → t < common.shape.nodes →
      course.sent t c ≡ pushed_at s.ends t c ++ onto number t c s.node.waiting
  pub came : (f : ℕ) (c : Chan) → f < common.shape.nodes →
      Came (closed_at s f c) s.node f c (course.took f c ++ option_to_list (front_at s.node f c)) (came_at s.ends f c)
