-- How far a serial schedule has come.
use Rattle.std.specs.Prelude.{◌≡◌, ℕ, suc, List, [], ◌∷◌, Some}
use Rattle.tw_base.specs.declared.entry.Entry.{Entry}
use Rattle.dsm_runs.specs.Schedules.{chosen, enabled_events}
use Rattle.dsm_runs.specs.Setups.{Setup}
use Rattle.dsm_runs.specs.Worlds.{Step, World, event_of}

-- the schedule of this stride leads from g, where t events were taken before, by these entries to h, and may go on there
abbrev pub HasBegun : Setup → ℕ → ℕ → World → List Entry → World → Type 0
HasBegun s stride t g [] h = g ≡ h
HasBegun s stride t g (e ∷ es) h = (chosen stride t (enabled_events s g) ≡ Some (event_of e)) × (mid : World) × Step s g e mid
    × HasBegun s stride (suc t) mid es h
