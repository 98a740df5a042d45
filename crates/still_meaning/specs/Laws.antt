-- What holds of all nodes on one thread: an event of one is an event of all, messages that are handed over change nothing,
-- schedules go on, tests tell what is enabled, and what is read is what the state has.
use Rattle.std.specs.Prelude.{◌≡◌, ◌≢◌, ℕ, ◌+◌, ◌*◌, ◌<◌, List, [], ◌∷◌, ◌++◌, Option, None, Some, length, slice_get}
use Rattle.std.specs.Prelude.{slice_index, slice_set}
use Rattle.tw_base.specs.Shape.{IsWithinLimits}
use Rattle.tw_base.specs.declared.entry.Entry.{Entry}
use Rattle.tw_base.specs.declared.entry.Event.{Event}
use Rattle.tw_base.specs.declared.entry.Event.TheVariants as event
use Rattle.tw_base.specs.declared.message.Chan.{Chan}
use Rattle.tw_base.specs.declared.message.Message.{Message}
use Rattle.journal.specs.Standing.{StandsAs}
use Rattle.dsm_runs.specs.Begun.{HasBegun}
use Rattle.dsm_runs.specs.Schedules.{Settles, chosen, enabled_events}
use Rattle.dsm_runs.specs.Worlds.{Runs, Wires, World, event_of}
use Rattle.event_masks.specs.Told.{told_events}
use Rattle.node_parts.specs.Truths.{truths}
use Rattle.node_meaning.specs.Nodes.{Shown, accepted_at, front_at, node_tests, onto}
use Rattle.node_meaning.specs.Stands.{Makes}
use Rattle.still_meaning.specs.Reading.{end_at, tag_at, word_at}
use Rattle.still_meaning.specs.Stills.{GoesThrough, IsStill, Passes, StillShown, flight, front_of, row_at, tallies, unpushed}

-- ---- an event of one node

-- the node of an event
abbrev pub node_of : Event → ℕ
node_of (event.Instr i) = i
node_of (event.Redeliver i) = i
node_of (event.Deliver i f c) = i

-- what an event takes: nothing, or what its node keeps of the wire
abbrev pub IsFrontOf : ℕ → Shown → Event → Option Message → Type 0
IsFrontOf nodes n (event.Instr i) front = front ≡ None
IsFrontOf nodes n (event.Redeliver i) front = front ≡ None
IsFrontOf nodes n (event.Deliver i f c) front = (f < nodes) × (front ≡ front_at n f c)

-- A node of them makes an event, and its entry is put behind those that were taken: all go through that event.
abbrev pub EventsOfOneAreOfAll : Type 0
EventsOfOneAreOfAll =
    (a b : StillShown) (old new : Shown) (front : Option Message) (ev : Event) (m : Makes old new front ev) →
    node_of ev ≡ old.me →
    slice_get a.nodes old.me ≡ Some old →
    old.me < a.setup.shape.nodes →
    IsFrontOf a.setup.shape.nodes old ev front →
    b.setup ≡ a.setup →
    b.code ≡ a.code →
    b.rows ≡ a.rows →
    b.nodes ≡ slice_set a.nodes old.me new →
    b.taken ≡ a.taken ++ m.entry ∷ [] →
    GoesThrough a b (m.entry ∷ []) (Runs a.setup)

-- Messages that are handed over leave all as they were.
abbrev pub HandedMessagesChangeNothing : Type 0
HandedMessagesChangeNothing = (a b : StillShown) → Passes a b → GoesThrough a b [] (Runs a.setup)

-- ---- messages that are handed over

-- what is on the way where a message is in hand: behind what was handed over, before what waits in its sender
abbrev pub holding : StillShown → Message → Wires
holding a m f t c = front_of (slice_get a.nodes t) f c ++ (row_at a f t c
    ++ (onto f t c (m ∷ []) ++ unpushed (slice_get a.nodes f) f t c))

-- the message that waited longest is taken out of node k
abbrev pub TakenInHand : Type 0
TakenInHand =
    (a b : StillShown) (k : ℕ) (old new : Shown) (m : Message) →
    slice_get a.nodes k ≡ Some old →
    slice_get b.nodes k ≡ Some new →
    ((i : ℕ) → i ≢ k → slice_get b.nodes i ≡ slice_get a.nodes i) →
    b.rows ≡ a.rows →
    old.waiting ≡ m ∷ new.waiting →
    new.fronts ≡ old.fronts →
    m.from ≡ k →
    (f t : ℕ) (c : Chan) → holding b m f t c ≡ flight a f t c

-- a message in hand is put behind its row
abbrev pub PutBehind : Type 0
PutBehind =
    (a b : StillShown) (m : Message) →
    b.nodes ≡ a.nodes →
    ((f t : ℕ) (c : Chan) → row_at b f t c ≡ row_at a f t c ++ onto f t c (m ∷ [])) →
    (f t : ℕ) (c : Chan) → flight b f t c ≡ holding a m f t c

-- The first message of a wire of which the receiver keeps none has the number that the receiver asks for.
abbrev pub FirstMessagesHaveTheNextNumber : Type 0
FirstMessagesHaveTheNextNumber =
    (a : StillShown) (g : World) → IsStill a g →
    (f t : ℕ) (c : Chan) (sender receiver : Shown) (m : Message) (rest : List Message) →
    slice_get a.nodes f ≡ Some sender →
    slice_get a.nodes t ≡ Some receiver →
    f < a.setup.shape.nodes →
    t < a.setup.shape.nodes →
    front_at receiver f c ≡ None →
    flight a f t c ≡ m ∷ rest →
    m.number ≡ accepted_at receiver f c

-- ---- runs and schedules

abbrev pub RunsGoOn : Type 0
RunsGoOn =
    (a b c : StillShown) (es fs : List Entry) → GoesThrough a b es (Runs a.setup) → GoesThrough b c fs (Runs b.setup) →
    GoesThrough a c (es ++ fs) (Runs a.setup)

-- The event that a schedule takes next takes it on.
abbrev pub SchedulesGoOn : Type 0
SchedulesGoOn =
    (a b c : StillShown) (stride : ℕ) (es : List Entry) (e : Entry) →
    GoesThrough a b es (HasBegun a.setup stride 0) →
    GoesThrough b c (e ∷ []) (Runs b.setup) →
    ((h : World) → IsStill b h → chosen stride (length es) (enabled_events b.setup h) ≡ Some (event_of e)) →
    GoesThrough a c (es ++ e ∷ []) (HasBegun a.setup stride 0)

-- It has settled where no event is enabled.
abbrev pub SchedulesSettle : Type 0
SchedulesSettle =
    (a b : StillShown) (stride : ℕ) (es : List Entry) →
    GoesThrough a b es (HasBegun a.setup stride 0) →
    ((h : World) → IsStill b h → enabled_events b.setup h ≡ []) →
    GoesThrough a b es (Settles a.setup stride 0)

-- ---- tests

-- where node n keeps no message of a wire to it, none is on the way
abbrev pub KeepsFronts : StillShown → ℕ → Shown → Type 0
KeepsFronts a i n = (f : ℕ) (c : Chan) → f < a.setup.shape.nodes → front_at n f c ≡ None →
    row_at a f i c ++ unpushed (slice_get a.nodes f) f i c ≡ []

-- a word a node, whose bits are the node's tests
pub record AreTests (a : StillShown) (words : List ℕ) : Type 0 where
  pub count : length words ≡ a.setup.shape.nodes
  pub tests : (i : ℕ) (n : Shown) → slice_get a.nodes i ≡ Some n →
      truths (2 + 2 * a.setup.shape.nodes) (slice_index words i) ≡ node_tests n
  pub fronts : (i : ℕ) (n : Shown) → slice_get a.nodes i ≡ Some n → KeepsFronts a i n

abbrev pub TestsTellWhatIsEnabled : Type 0
TestsTellWhatIsEnabled =
    (a : StillShown) (words : List ℕ) (g : World) → AreTests a words → IsStill a g → told_events words ≡ enabled_events a.setup g

-- ---- what is read at the end

abbrev pub WhatIsReadIsTheStates : Type 0
WhatIsReadIsTheStates =
    (s : StillShown) (g : World) → IsStill s g → IsWithinLimits s.setup.shape →
    StandsAs s.setup g (λ i. (tallies s i).ops) (λ i. (tallies s i).records) s.setup.shape (tag_at s) (word_at s) (end_at s)
