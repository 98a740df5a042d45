-- One event of all nodes on one thread.
use Rattle.std.specs.Prelude.{◌≡◌, ◌≢◌, ℕ, ◌<◌, List, [], ◌∷◌, ◌++◌, Option, Some, true, slice_get}
use Rattle.tw_base.specs.declared.entry.Entry.{Entry}
use Rattle.tw_base.specs.declared.entry.Event.{Event}
use Rattle.tw_base.specs.declared.entry.Event.TheVariants as event
use Rattle.tw_base.specs.declared.message.Chan.{Chan}
use Rattle.tw_base.specs.declared.message.Message.{Message}
use Rattle.dsm_runs.specs.Worlds.{Runs, event_of}
use Rattle.node_meaning.specs.Nodes.{Shown, test_of}
use Rattle.node_meaning.specs.Stands.{Makes, StandsAsBefore}
use Rattle.still_meaning.specs.Laws.{IsFrontOf, node_of}
use Rattle.still_meaning.specs.Stills.{GoesThrough, Passes, StillShown}
use Rattle.still_nodes.specs.Handing.{IsFilled, waits_at}

-- its nodes are of the machine
abbrev pub IsWithin : ℕ → Event → Type 0
IsWithin nodes (event.Instr i) = i < nodes
IsWithin nodes (event.Redeliver i) = i < nodes
IsWithin nodes (event.Deliver i f c) = (i < nodes) × (f < nodes)

-- the test of its node is true
abbrev pub MayMake : StillShown → Event → Type 0
MayMake s e = IsWithin s.setup.shape.nodes e × ((n : Shown) → slice_get s.nodes (node_of e) ≡ Some n → test_of n e ≡ true)

-- this event was made
pub record Made (old new : StillShown) (e : Event) : Type 0 where
  pub entry : Entry
  pub tells : event_of entry ≡ e
  pub goes : GoesThrough old new (entry ∷ []) (Runs old.setup)

-- it was made, or none was, before memory ran out
pub data MadeAtMost (old new : StillShown) (e : Event) : Type 0 where
  none : GoesThrough old new [] (Runs old.setup) → MadeAtMost old new e
  one : Made old new e → MadeAtMost old new e

-- ---- parts of an event

-- memory was taken, or not, and all else stays
pub record MakesRoom (old new : Shown) : Type 0 where
  pub same : new ≡ record old { ready = new.ready; conts = record old.conts { spare = new.conts.spare } }
  pub stands : StandsAsBefore old new

-- the node made this event
pub record NodeMakes (old new : Shown) (e : Event) : Type 0 where
  pub front : Option Message
  pub makes : Makes old new front e
  pub takes : IsFrontOf old.setup.shape.nodes old e front

-- memory was taken, the node made this event, and its entry was put behind the others
pub record NodeActs (old new : Shown) (was now : List Entry) (e : Event) : Type 0 where
  pub ready : Shown
  pub room : MakesRoom old ready
  pub made : NodeMakes ready new e
  pub taken : now ≡ was ++ made.makes.entry ∷ []

-- This event was made. What it sent waits at its node, and nothing is known of the wire that it took a message from.
pub record Acts (a b : StillShown) (e : Event) : Type 0 where
  pub made : Made a b e
  pub away : (i : ℕ) → i ≢ node_of e → slice_get b.nodes i ≡ slice_get a.nodes i
  pub filled : (f t : ℕ) (c : Chan) → e ≢ event.Deliver t f c → IsFilled a f t c → IsFilled b f t c

-- the wire that this event took a message from was filled
pub record RefillsAfter (a b : StillShown) (e : Event) : Type 0 where
  pub passes : Passes a b
  pub away : (i : ℕ) → i ≢ node_of e → slice_get b.nodes i ≡ slice_get a.nodes i
  pub waits : (i : ℕ) → waits_at b i ≡ waits_at a i
  pub filled : (f t : ℕ) (c : Chan) → (e ≢ event.Deliver t f c → IsFilled a f t c) → IsFilled b f t c
