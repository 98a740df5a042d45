-- What every state of a run has: blocks that fit, messages of the protocol, and nodes that stay as they failed.
use Rattle.std.specs.Prelude.{◌≡◌, ℕ, ◌+◌, ◌<◌, ◌≤◌, Bool, true, false, length, List, Option, Some}
use Rattle.tw_base.specs.Lists.{Each, sum_below}
use Rattle.tw_base.specs.Shape.{handler_budget_of}
use Rattle.tw_base.specs.declared.entry.End.{End}
use Rattle.tw_base.specs.declared.entry.Entry.{Entry}
use Rattle.tw_base.specs.declared.entry.Event.{Event}
use Rattle.tw_base.specs.declared.entry.Event.TheVariants as event
use Rattle.tw_base.specs.declared.message.Chan.{Chan}
use Rattle.tw_base.specs.declared.message.Kind.{Kind}
use Rattle.tw_base.specs.declared.message.Kind.TheVariants as kind
use Rattle.tw_base.specs.declared.message.Message.{Message}
use Rattle.teapot_meaning.specs.Fits.{Fits, IsMessageOf}
use Rattle.teapot_meaning.specs.declared.state.Here.{Here}
use Rattle.dsm_runs.specs.Setups.{IsSetup, Setup, home_of}
use Rattle.dsm_runs.specs.Locals.{Local, first}
use Rattle.dsm_runs.specs.Messages.{posted}
use Rattle.dsm_runs.specs.Events.{LocalStep}
use Rattle.dsm_runs.specs.Worlds.{IsEnabled, Runs, Step, World, event_of, start}
use Rattle.dsm_runs.specs.Replays.{Course, Replays}

abbrev pub is_fault : Kind → Bool
is_fault kind.RdFault = true
is_fault kind.WrFault = true
is_fault (kind.Named n) = false

-- block b at node i: in a state of the protocol, of full size, and it knows where it is
pub record IsBlockAt (s : Setup) (i b : ℕ) (here : Here) : Type 0 where
  pub fits : Fits s.protocol here
  pub words : length here.words ≡ s.shape.words
  pub me : here.me ≡ i
  pub block : here.block ≡ b
  pub home : here.home ≡ home_of s b

-- a message on the way from node f to node t: one that the protocol declares
pub record IsOnTheWay (s : Setup) (f t : ℕ) (m : Message) : Type 0 where
  pub is_message : IsMessageOf s.protocol s.shape.words m
  pub named : is_fault m.kind ≡ false
  pub from : m.from ≡ f
  pub to : m.to ≡ t
  pub block : m.block < s.shape.blocks

-- a message that is sent, to whichever node
pub record IsPosted (s : Setup) (m : Message) : Type 0 where
  pub is_message : IsMessageOf s.protocol s.shape.words m
  pub named : is_fault m.kind ≡ false
  pub block : m.block < s.shape.blocks

-- a message that node i deferred: one that came to it, or a fault of its own
pub record IsDeferredAt (s : Setup) (i : ℕ) (m : Message) : Type 0 where
  pub is_message : IsMessageOf s.protocol s.shape.words m
  pub to : m.to ≡ i
  pub own : is_fault m.kind ≡ true → m.from ≡ i
  pub block : m.block < s.shape.blocks

-- what node i has in every state
pub record IsNodeOf (s : Setup) (i : ℕ) (l : Local) : Type 0 where
  pub blocks : (b : ℕ) → b < s.shape.blocks → IsBlockAt s i b (l.blocks b)
  pub deferred : Each (λ w. IsDeferredAt s i w.message) l.deferred

-- what each node and each wire has in every state
pub record IsRunState (s : Setup) (g : World) : Type 0 where
  pub nodes : (i : ℕ) → IsNodeOf s i (g.locals i)
  pub wires : (f t : ℕ) (c : Chan) → Each (IsOnTheWay s f t) (g.wires f t c)

-- no event of node i may happen
pub record IsOver (s : Setup) (g : World) (i : ℕ) : Type 0 where
  pub no_instruction : ¬ IsEnabled s g (event.Instr i)
  pub no_redelivery : ¬ IsEnabled s g (event.Redeliver i)
  pub no_delivery : (f : ℕ) (c : Chan) → ¬ IsEnabled s g (event.Deliver i f c)

-- Every state that a run reaches is such a state.
abbrev pub RunsKeepTheirState : Type 0
RunsKeepTheirState = (s : Setup) (journal : List Entry) (g : World) → IsSetup s → Runs s (start s) journal g → IsRunState s g

-- An event keeps it.
abbrev pub StepsKeepTheirState : Type 0
StepsKeepTheirState =
    (s : Setup) (g : World) (e : Entry) (h : World) → IsSetup s → IsRunState s g → Step s g e h → IsRunState s h

-- A node that failed makes no event.
abbrev pub FailedNodesAreOver : Type 0
FailedNodesAreOver = (s : Setup) (g : World) (i : ℕ) (why : End) → (g.locals i).failed ≡ Some why → IsOver s g i

-- However a run goes on, a node that failed stays as it is.
abbrev pub FailedNodesStay : Type 0
FailedNodesStay =
    (s : Setup) (more : List Entry) (g h : World) (i : ℕ) (why : End) →
    (g.locals i).failed ≡ Some why → Runs s g more h → h.locals i ≡ g.locals i

-- ---- one node alone

-- A node starts so.
abbrev pub NodesStartSound : Type 0
NodesStartSound = (s : Setup) (i : ℕ) → IsSetup s → IsNodeOf s i (first s i)

-- what an event leaves at its node, and what it puts on wires
pub record KeepsNode (s : Setup) (i : ℕ) (l2 : Local) (sends : List Message) : Type 0 where
  pub node : IsNodeOf s i l2
  pub sent : Each (IsPosted s) sends
  pub on : (k t : ℕ) (c : Chan) → Each (IsOnTheWay s i t) (posted k i t c sends)

-- An event of a node keeps it so, where the message that it takes is one that came to it.
abbrev pub EventsKeepNodes : Type 0
EventsKeepNodes =
    (s : Setup) (i : ℕ) (l : Local) (front : Option Message) (l2 : Local) (e : Entry) (sends : List Message) →
    IsSetup s → IsNodeOf s i l → ((m : Message) → front ≡ Some m → IsDeferredAt s i m) →
    LocalStep s i l front l2 e sends → KeepsNode s i l2 sends

-- the node is as in every state, and each message that it sent is on its way
pub record IsCourseOf (s : Setup) (i : ℕ) (a : Course) : Type 0 where
  pub node : IsNodeOf s i a.local
  pub sent : (t : ℕ) (c : Chan) → Each (IsOnTheWay s i t) (a.sent t c)

-- A node whose log is replayed is so, where each message that it took is one that came to it.
abbrev pub LogsKeepNodes : Type 0
LogsKeepNodes =
    (s : Setup) (i : ℕ) (log : List Entry) (a : Course) →
    IsSetup s → Replays s i log a → ((f : ℕ) (c : Chan) → Each (IsDeferredAt s i) (a.took f c)) → IsCourseOf s i a

-- ---- events that are enabled

-- the step of an event
pub record Makes (s : Setup) (g : World) (e : Event) : Type 0 where
  pub entry : Entry
  pub after : World
  pub tells : event_of entry ≡ e
  pub step : Step s g entry after

-- In such a state an event that is enabled has a step.
abbrev pub EnabledEventsStep : Type 0
EnabledEventsStep = (s : Setup) (g : World) (e : Event) → IsSetup s → IsRunState s g → IsEnabled s g e → Makes s g e

-- ---- how far a run may get

-- the instructions and the messages that a node's budgets counted
abbrev pub done : World → ℕ → ℕ
done g i = (g.locals i).instructions + (g.locals i).handled

abbrev pub UpTo : ℕ → Message → Type 0
UpTo k m = m.stamp ≤ k

-- after k events: the nodes' counts make k, each is within its budget, and no clock and no stamp on a wire is past k
pub record Bounded (s : Setup) (k : ℕ) (g : World) : Type 0 where
  pub total : sum_below s.shape.nodes (done g) ≡ k
  pub instructions : (i : ℕ) → (g.locals i).instructions ≤ s.shape.budget
  pub handled : (i : ℕ) → (g.locals i).handled ≤ handler_budget_of s.shape
  pub clocks : (i : ℕ) → (g.locals i).clock ≤ k
  pub wires : (f t : ℕ) (c : Chan) → Each (UpTo k) (g.wires f t c)
