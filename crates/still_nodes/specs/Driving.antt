-- Events of all nodes on one thread: those of a list, and those of a serial schedule.
use Rattle.std.specs.Prelude.{◌≡◌, ℕ, List, map, take}
use Rattle.tw_base.specs.declared.entry.Entry.{Entry}
use Rattle.tw_base.specs.declared.entry.Event.{Event}
use Rattle.dsm_runs.specs.Begun.{HasBegun}
use Rattle.dsm_runs.specs.Schedules.{Settles}
use Rattle.dsm_runs.specs.Worlds.{Runs, event_of}
use Rattle.still_meaning.specs.Stills.{GoesThrough, StillShown}

-- the first k of these events were made, in their order
pub record Drives (old new : StillShown) (events : List Event) (k : ℕ) : Type 0 where
  pub entries : List Entry
  pub tell : map event_of entries ≡ take k events
  pub goes : GoesThrough old new entries (Runs old.setup)

-- the schedule of this stride was followed from its start to its end
pub record HasSettled (old new : StillShown) (stride : ℕ) : Type 0 where
  pub entries : List Entry
  pub goes : GoesThrough old new entries (Settles old.setup stride 0)

-- the schedule of this stride was followed from its start so far
pub record HasFollowed (old new : StillShown) (stride : ℕ) : Type 0 where
  pub entries : List Entry
  pub goes : GoesThrough old new entries (HasBegun old.setup stride 0)
