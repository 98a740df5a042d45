-- All nodes and wires, and what a run of them is.
use Rattle.std.specs.Prelude.{◌≡◌, ◌≢◌, ℕ, ◌+◌, ◌<◌, Bool, false, ◌&&◌, if◌then◌else◌, nat_eq, length, List, [], ◌∷◌, ◌++◌}
use Rattle.std.specs.Prelude.{Option, option_to_list}
use Rattle.std.specs.List.{filter}
use Rattle.tw_base.specs.declared.entry.Act.{Act}
use Rattle.tw_base.specs.declared.entry.Act.TheVariants as act
use Rattle.tw_base.specs.declared.message.Chan.{Chan}
use Rattle.tw_base.specs.declared.entry.Entry.{Entry}
use Rattle.tw_base.specs.declared.entry.Event.{Event}
use Rattle.tw_base.specs.declared.entry.Event.TheVariants as event
use Rattle.tw_base.specs.declared.message.Message.{Message}
use Rattle.dsm_runs.specs.declared.mode.Waiting.{Waiting}
use Rattle.dsm_runs.specs.Setups.{Setup}
use Rattle.dsm_runs.specs.Locals.{Local, first, IsFirst, IsStale, last_stamp, MayInstruct, MayHandle}
use Rattle.tw_base.specs.Lists.{Each}
use Rattle.dsm_runs.specs.Messages.{chan_eq, on_wire, posted}
use Rattle.dsm_runs.specs.Events.{LocalStep}

-- by sender, receiver and channel
abbrev pub Wires : Type 0
Wires = ℕ → ℕ → Chan → List Message

pub record World : Type 0 where
  pub locals : ℕ → Local
  pub wires : Wires
  pub next : ℕ → ℕ → Chan → ℕ  -- the number of the next message that is sent

abbrev pub start : Setup → World
start s = record { locals = first s; wires = λ f t c. []; next = λ f t c. 0 }

-- an event with this act takes the front of the wire from f on channel c
abbrev pub takes_from : Act → ℕ → Chan → Bool
takes_from (act.Delivered kind block from chan number) f c = nat_eq f from && chan_eq c chan
takes_from (act.Load address value) f c = false
takes_from (act.Store address value) f c = false
takes_from (act.Faa address value sum) f c = false
takes_from (act.Print value) f c = false
takes_from act.Halt f c = false
takes_from (act.Trapped why) f c = false
takes_from act.Step f c = false
takes_from (act.Fault store block) f c = false
takes_from (act.Redelivered kind block from) f c = false

-- what the event of this entry takes from the wire from f to t
abbrev pub taken : Entry → Option Message → ℕ → ℕ → Chan → List Message
taken e front f t c = if nat_eq t e.node && takes_from e.act f c then option_to_list front else []

-- the event of this entry is enabled in g, gives this entry, and leads to g2
pub record Step (s : Setup) (g : World) (e : Entry) (g2 : World) : Type 0 where
  pub front : Option Message
  pub sends : List Message
  pub between : Wires
  pub local : LocalStep s e.node (g.locals e.node) front (g2.locals e.node) e sends
  pub others : (k : ℕ) → k ≢ e.node → g2.locals k ≡ g.locals k
  pub takes : (f t : ℕ) (c : Chan) → g.wires f t c ≡ taken e front f t c ++ between f t c
  pub wires : (f t : ℕ) (c : Chan) → g2.wires f t c ≡ between f t c ++ posted (g.next f t c) f t c sends
  pub next : (f t : ℕ) (c : Chan) → g2.next f t c ≡ g.next f t c + length (filter (on_wire f t c) sends)

abbrev pub Runs : Setup → World → List Entry → World → Type 0
Runs s g [] g2 = g ≡ g2
Runs s g (e ∷ es) g2 = (mid : World) × Step s g e mid × Runs s mid es g2

-- the event that an entry tells of
abbrev pub event_at : ℕ → Act → Event
event_at i (act.Delivered kind block from chan number) = event.Deliver i from chan
event_at i (act.Redelivered kind block from) = event.Redeliver i
event_at i (act.Load address value) = event.Instr i
event_at i (act.Store address value) = event.Instr i
event_at i (act.Faa address value sum) = event.Instr i
event_at i (act.Print value) = event.Instr i
event_at i act.Halt = event.Instr i
event_at i (act.Trapped why) = event.Instr i
event_at i act.Step = event.Instr i
event_at i (act.Fault store block) = event.Instr i

abbrev pub event_of : Entry → Event
event_of e = event_at e.node e.act

pub record MayRedeliver (s : Setup) (l : Local) : Type 0 where
  pub may : MayHandle s l
  pub message : Message
  pub earlier : List Waiting
  pub later : List Waiting
  pub takes : IsFirst message earlier later l.deferred

pub record MayDeliver (s : Setup) (l : Local) (wire : List Message) : Type 0 where
  pub may : MayHandle s l
  pub none_eligible : Each IsStale l.deferred
  pub message : Message
  pub rest : List Message
  pub front : wire ≡ message ∷ rest
  pub early : message.stamp < last_stamp

abbrev pub IsEnabled : Setup → World → Event → Type 0
IsEnabled s g (event.Instr i) = (i < s.shape.nodes) × MayInstruct s (g.locals i)
IsEnabled s g (event.Redeliver i) = (i < s.shape.nodes) × MayRedeliver s (g.locals i)
IsEnabled s g (event.Deliver i f c) = (i < s.shape.nodes) × (f < s.shape.nodes) × MayDeliver s (g.locals i) (g.wires f i c)

abbrev pub IsQuiet : Setup → World → Type 0
IsQuiet s g = (e : Event) → ¬ IsEnabled s g e
