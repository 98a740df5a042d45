-- Messages that are handed over: out of a node, to a node, and what stays beside them.
use Rattle.std.specs.Prelude.{◌≡◌, ◌≢◌, ℕ, ◌+◌, ◌<◌, Bool, true, false, List, [], ◌∷◌, ◌++◌, Option, Some, None, length}
use Rattle.std.specs.Prelude.{slice_get, slice_set}
use Rattle.std.specs.List.{slice_index_or}
use Rattle.tw_base.specs.declared.message.Chan.{Chan}
use Rattle.tw_base.specs.declared.message.Message.{Message}
use Rattle.dsm_runs.specs.Messages.{place}
use Rattle.node_meaning.specs.Nodes.{Shown, accepted_at, front_at}
use Rattle.node_meaning.specs.Stands.{IsFit, StandsAsBefore}
use Rattle.still_meaning.specs.Stills.{Passes, StillShown, row_at}
use Rattle.still_nodes.specs.Parts.{Rows}

-- ---- what waits and what follows

abbrev pub waiting_of : Option Shown → List Message
waiting_of None = []
waiting_of (Some n) = n.waiting

-- what waits at node i to be handed out
abbrev pub waits_at : StillShown → ℕ → List Message
waits_at s i = waiting_of (slice_get s.nodes i)

-- where the receiver keeps no message of the wire, none follows
abbrev pub IsFilled : StillShown → ℕ → ℕ → Chan → Type 0
IsFilled s f t c = (n : Shown) → slice_get s.nodes t ≡ Some n → front_at n f c ≡ None → row_at s f t c ≡ []

abbrev pub AreFilled : StillShown → Type 0
AreFilled s = (f t : ℕ) (c : Chan) → f < s.setup.shape.nodes → IsFilled s f t c

-- nothing waits at a node but k, and where a receiver keeps no message of a wire, none follows
pub record IsSpreadBut (s : StillShown) (k : ℕ) : Type 0 where
  pub out : (i : ℕ) → i ≢ k → waits_at s i ≡ []
  pub filled : AreFilled s

-- what follows on the wire from f to t
abbrev pub queue_at : Rows → ℕ → ℕ → Chan → List Message
queue_at rows f t c = slice_index_or (slice_index_or rows f []) (place t c) []

-- the rows with another list on the wire from f to t
abbrev pub with_queue : Rows → ℕ → ℕ → Chan → List Message → Rows
with_queue rows f t c ms = slice_set rows f (slice_set (slice_index_or rows f []) (place t c) ms)

-- the rows with a message behind those of its wire
abbrev pub with_behind : Rows → Message → Rows
with_behind rows m = with_queue rows m.from m.to m.chan (queue_at rows m.from m.to m.chan ++ m ∷ [])

-- ---- parts of handing over

-- the message has waited longest at node k
pub record IsFirstOut (a : List Shown) (k : ℕ) (m : Message) : Type 0 where
  pub sender : Shown
  pub there : slice_get a k ≡ Some sender
  pub first : slice_get sender.waiting 0 ≡ Some m
  pub fit : IsFit sender.setup sender.me m.to m

-- the message that waited longest was taken out of node k
pub record Pops (a b : List Shown) (k : ℕ) (m : Message) : Type 0 where
  pub old : Shown
  pub new : Shown
  pub there : slice_get a k ≡ Some old
  pub now : b ≡ slice_set a k new
  pub waits : old.waiting ≡ m ∷ new.waiting
  pub same : new ≡ record old { waiting = new.waiting }
  pub fit : IsFit old.setup old.me m.to m
  pub stands : StandsAsBefore old new

-- the message may be kept by its receiver
pub record MayAccept (a : List Shown) (m : Message) : Type 0 where
  pub receiver : Shown
  pub there : slice_get a m.to ≡ Some receiver
  pub free : front_at receiver m.from m.chan ≡ None
  pub fit : IsFit receiver.setup m.from receiver.me m
  pub number : m.number ≡ accepted_at receiver m.from m.chan

-- its receiver keeps the message
pub record Accepts (a b : List Shown) (m : Message) : Type 0 where
  pub old : Shown
  pub new : Shown
  pub there : slice_get a m.to ≡ Some old
  pub now : b ≡ slice_set a m.to new
  pub fronts : length old.fronts ≡ 16
  pub same :
      new
      ≡ record old {
        fronts = slice_set old.fronts (place m.from m.chan) (Some m);
        accepted = slice_set old.accepted (place m.from m.chan) (m.number + 1);
      }
  pub stands : StandsAsBefore old new

-- the message that has waited longest at node k may be kept by its receiver
pub record MayHandOver (a : List Shown) (k : ℕ) : Type 0 where
  pub message : Message
  pub first : IsFirstOut a k message
  pub may : MayAccept a message

-- the message went from node k to its receiver, which keeps it
pub record HandsOver (a b : List Shown) (k : ℕ) : Type 0 where
  pub message : Message
  pub between : List Shown
  pub pops : Pops a between k message
  pub accepts : Accepts between b message

-- ---- of all

-- messages that waited at node k were handed over: what waits elsewhere stays, and where none follows none will
pub record LeavesOthers (a b : StillShown) (k : ℕ) : Type 0 where
  pub waits : (i : ℕ) → i ≢ k → waits_at b i ≡ waits_at a i
  pub filled : (f t : ℕ) (c : Chan) → IsFilled a f t c → IsFilled b f t c

-- one of what waited, if there was one
abbrev pub OneOf : Bool → List Message → List Message → Type 0
OneOf true old new = length new + 1 ≡ length old
OneOf false old new = new ≡ []

-- a message of node k was handed out to node t, and other nodes are as before
pub record HandsTo (a b : StillShown) (k t : ℕ) : Type 0 where
  pub within : t < a.setup.shape.nodes
  pub fewer : length (waits_at b k) + 1 ≡ length (waits_at a k)
  pub away : (i : ℕ) → i ≢ k → i ≢ t → slice_get b.nodes i ≡ slice_get a.nodes i

-- the same, to whom it went if there was one
abbrev pub HandsOut : StillShown → StillShown → ℕ → Option ℕ → Type 0
HandsOut a b k None = (b ≡ a) × (waits_at b k ≡ [])
HandsOut a b k (Some t) = HandsTo a b k t

-- what follows on the wire from f to t was handed over, if the receiver kept nothing of it
pub record Refills (a b : StillShown) (f t : ℕ) (c : Chan) : Type 0 where
  pub passes : Passes a b
  pub away : (i : ℕ) → i ≢ t → slice_get b.nodes i ≡ slice_get a.nodes i
  pub waits : (i : ℕ) → waits_at b i ≡ waits_at a i
  pub here : IsFilled b f t c
  pub filled : (g u : ℕ) (d : Chan) → IsFilled a g u d → IsFilled b g u d

-- the same of each wire to node t
pub record RefillsTo (a b : StillShown) (t : ℕ) : Type 0 where
  pub passes : Passes a b
  pub here : (f : ℕ) (c : Chan) → f < a.setup.shape.nodes → IsFilled b f t c
  pub filled : (g u : ℕ) (d : Chan) → IsFilled a g u d → IsFilled b g u d

-- the same of all wires
pub record RefillsAll (a b : StillShown) : Type 0 where
  pub passes : Passes a b
  pub filled : AreFilled b
