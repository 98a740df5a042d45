-- The serial schedules: one for each stride.
use Rattle.std.specs.Prelude.{◌≡◌, ℕ, zero, suc, ◌*◌, ◌%◌, length, List, [], ◌∷◌, ◌++◌, Option, Some, None, slice_get}
use Rattle.std.specs.List.{filter}
use Rattle.tw_base.specs.declared.entry.Entry.{Entry}
use Rattle.tw_base.specs.declared.entry.Event.{Event}
use Rattle.tw_base.specs.declared.entry.Event.TheVariants as event
use Rattle.tw_base.specs.declared.message.Chan.TheVariants.{Zero, One}
use Rattle.dsm_runs.specs.Setups.{Setup}
use Rattle.dsm_runs.specs.Tests.{is_enabled}
use Rattle.dsm_runs.specs.Worlds.{Step, World, event_of}

-- the deliveries at node i from the nodes below f, by sender and then by channel
abbrev pub deliveries : ℕ → ℕ → List Event
deliveries i zero = []
deliveries i (suc f) = deliveries i f ++ event.Deliver i f Zero ∷ event.Deliver i f One ∷ []

-- the events of node i in a machine of n nodes: its instruction, its redelivery, and its deliveries
abbrev pub node_events : ℕ → ℕ → List Event
node_events n i = event.Instr i ∷ event.Redeliver i ∷ deliveries i n

-- the events of the nodes below i
abbrev pub events_below : ℕ → ℕ → List Event
events_below n zero = []
events_below n (suc i) = events_below n i ++ node_events n i

abbrev pub all_events : ℕ → List Event
all_events n = events_below n n

-- the events that are enabled, in this order
abbrev pub enabled_events : Setup → World → List Event
enabled_events s g = filter (is_enabled s g) (all_events s.shape.nodes)

-- the event that is taken of these, where t were taken before
abbrev pub chosen : ℕ → ℕ → List Event → Option Event
chosen stride t events = slice_get events ((t * stride) % length events)

-- The schedule of this stride leads from g, where t events were taken before, by these entries to h, where no event is
-- enabled.
abbrev pub Settles : Setup → ℕ → ℕ → World → List Entry → World → Type 0
Settles s stride t g [] h = (g ≡ h) × (enabled_events s g ≡ [])
Settles s stride t g (e ∷ es) h =
    (chosen stride t (enabled_events s g) ≡ Some (event_of e)) ×
    (mid : World) × Step s g e mid × Settles s stride (suc t) mid es h

-- one turn of the schedule, where t events were taken before: an event is made, or none is enabled
abbrev pub Advances : Setup → ℕ → ℕ → World → Option Entry → World → Type 0
Advances s stride t g None h = (g ≡ h) × (enabled_events s g ≡ [])
Advances s stride t g (Some e) h = (chosen stride t (enabled_events s g) ≡ Some (event_of e)) × Step s g e h
