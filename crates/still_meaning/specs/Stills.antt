-- All nodes on one thread, and the messages between them.
use Rattle.std.specs.Prelude.{◌≡◌, ℕ, ◌<◌, ◌++◌, false, List, [], Option, Some, None, length, option_to_list, slice_get}
use Rattle.std.specs.List.{list_any, slice_index_or}
use Rattle.tw_base.specs.Lists.{Each}
use Rattle.tw_base.specs.declared.entry.Entry.{Entry}
use Rattle.tw_base.specs.declared.entry.Event.{Event}
use Rattle.tw_base.specs.declared.message.Chan.{Chan}
use Rattle.tw_base.specs.declared.message.Message.{Message}
use Rattle.handler_code.specs.declared.code.Code.{Code}
use Rattle.dsm_runs.specs.Beside.{RunsBeside}
use Rattle.dsm_runs.specs.Merges.{Agrees, IsJoined}
use Rattle.dsm_runs.specs.Messages.{place}
use Rattle.dsm_runs.specs.Replays.{Course}
use Rattle.dsm_runs.specs.Setups.{IsSetup, Setup}
use Rattle.dsm_runs.specs.Worlds.{IsEnabled, Wires, World}
use Rattle.node_meaning.specs.Nodes.{Shown, front_at, node_tests, onto, tally_of}
use Rattle.node_meaning.specs.Stands.{StandsAsBefore, StandsFor}
use Rattle.node_meaning.specs.Tallies.{Counts, Tally, first_tally}

pub record StillShown : Type 0 where
  pub setup : Setup
  pub code : Code
  pub nodes : List Shown  -- by node
  pub rows : List (List (List Message))  -- by sender, and at place t c: what follows the message that node t keeps of the wire
  pub taken : List Entry  -- of the events that were made, in the order made

-- ---- what is on the way on a wire

abbrev pub row_at : StillShown → ℕ → ℕ → Chan → List Message
row_at s f t c = slice_index_or (slice_index_or s.rows f []) (place t c) []

abbrev pub front_of : Option Shown → ℕ → Chan → List Message
front_of None f c = []
front_of (Some n) f c = option_to_list (front_at n f c)

abbrev pub unpushed : Option Shown → ℕ → ℕ → Chan → List Message
unpushed None f t c = []
unpushed (Some n) f t c = onto f t c n.waiting

-- the message that the receiver keeps, then what follows it, then what waits in the sender
abbrev pub flight : StillShown → Wires
flight s f t c = front_of (slice_get s.nodes t) f c ++ (row_at s f t c ++ unpushed (slice_get s.nodes f) f t c)

-- ---- the states of the model that they stand for

-- node i of this setup and code, which stands for the course
pub record IsNodeAt (s : StillShown) (i : ℕ) (n : Shown) (c : Course) : Type 0 where
  pub setup : n.setup ≡ s.setup
  pub code : n.code ≡ s.code
  pub me : n.me ≡ i
  pub stands : StandsFor n c

-- The nodes and what is on the way are the state g, which is made of the courses that the nodes stand for.
pub record IsStill (s : StillShown) (g : World) : Type 0 where
  pub count : length s.nodes ≡ s.setup.shape.nodes
  pub ends : ℕ → Course
  pub nodes : (i : ℕ) (n : Shown) → slice_get s.nodes i ≡ Some n → IsNodeAt s i n (ends i)
  pub agrees : Agrees s.setup.shape.nodes ends (flight s)
  pub joined : IsJoined s.setup.shape.nodes ends (flight s) g

abbrev pub tally_in : Setup → ℕ → Option Shown → Tally
tally_in s i None = first_tally s i
tally_in s i (Some n) = tally_of n

-- what the machine of ops did at each node
abbrev pub tallies : StillShown → ℕ → Tally
tallies s i = tally_in s.setup i (slice_get s.nodes i)

-- ---- events

-- Whatever state it was, these events were made, and the machine of ops went on beside them.
pub record GoesThrough (old new : StillShown) (es : List Entry) (Ran : World → List Entry → World → Type 0) : Type 0 where
  pub same_setup : new.setup ≡ old.setup
  pub same_code : new.code ≡ old.code
  pub taken : new.taken ≡ old.taken ++ es
  pub ran :
      (g : World) →
      IsStill old g →
      (h : World) × Ran g es h × IsStill new h × RunsBeside (Counts old.setup old.code) old.setup g (tallies old) es h
      (tallies new)

-- whatever state it is, the event is not enabled there
abbrev pub IsDisabled : StillShown → Event → Type 0
IsDisabled s e = (g : World) → IsStill s g → ¬ IsEnabled s.setup g e

-- nothing waits in a sender, and where a receiver keeps no message of a wire, none follows
pub record IsSpread (s : StillShown) : Type 0 where
  pub out : (i : ℕ) (n : Shown) → slice_get s.nodes i ≡ Some n → n.waiting ≡ []
  pub fronts :
      (f t : ℕ) (c : Chan) (n : Shown) → slice_get s.nodes t ≡ Some n → f < s.setup.shape.nodes → front_at n f c ≡ None →
      row_at s f t c ≡ []

-- nothing more can happen: the messages are with their receivers, and no test of a node is true
pub record IsAtRest (s : StillShown) : Type 0 where
  pub spread : IsSpread s
  pub idle : (i : ℕ) (n : Shown) → slice_get s.nodes i ≡ Some n → list_any (λ b. b) (node_tests n) ≡ false

-- What holds of them by themselves: a row for each sender with a queue for each of sixteen places, and a state that they are.
pub record AreWhole (s : StillShown) : Type 0 where
  pub setup : IsSetup s.setup
  pub rows : length s.rows ≡ s.setup.shape.nodes
  pub places : Each (λ row. length row ≡ 16) s.rows
  pub state : World
  pub still : IsStill s state

-- ---- messages are handed over: the nodes stand for the same courses, and the same is on the way

-- node i was there before, and stands for each course that it stood for
pub record IsAsBefore (a : StillShown) (i : ℕ) (n : Shown) : Type 0 where
  pub old : Shown
  pub there : slice_get a.nodes i ≡ Some old
  pub setup : n.setup ≡ old.setup
  pub code : n.code ≡ old.code
  pub me : n.me ≡ old.me
  pub tally : tally_of n ≡ tally_of old
  pub stands : StandsAsBefore old n

pub record Passes (a b : StillShown) : Type 0 where
  pub same_setup : b.setup ≡ a.setup
  pub same_code : b.code ≡ a.code
  pub taken : b.taken ≡ a.taken
  pub count : length b.nodes ≡ length a.nodes
  pub nodes : (i : ℕ) (n : Shown) → slice_get b.nodes i ≡ Some n → IsAsBefore a i n
  pub flight : (f t : ℕ) (c : Chan) → f < a.setup.shape.nodes → t < a.setup.shape.nodes → flight b f t c ≡ flight a f t c
