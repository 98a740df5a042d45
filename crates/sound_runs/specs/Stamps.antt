-- The stamps of a run, under any protocol.
use Rattle.std.specs.Prelude.{ℕ, ◌+◌, ◌*◌, ◌<◌, ◌≤◌, length, List}
use Rattle.std.specs.List.{filter}
use Rattle.tw_base.specs.Lists.{Each}
use Rattle.tw_base.specs.Shape.{handler_budget_of}
use Rattle.tw_base.specs.declared.entry.Entry.{Entry}
use Rattle.dsm_runs.specs.Laws.{IsRising}
use Rattle.dsm_runs.specs.Locals.{last_stamp}
use Rattle.dsm_runs.specs.Merges.{is_of}
use Rattle.dsm_runs.specs.Setups.{IsSetup, Setup}
use Rattle.dsm_runs.specs.Worlds.{Runs, World, start}

-- The stamps of each node's events rise (after Lamport, Time, Clocks, and the Ordering of Events in a Distributed System,
-- 1978). There are no more events than the budgets allow, no stamp is past their number, and so no clock comes to its last value.
pub record HasSoundStamps (s : Setup) (j : List Entry) (g : World) : Type 0 where
  pub rising : (i : ℕ) → IsRising (filter (is_of i) j)
  pub events : length j ≤ s.shape.nodes * (s.shape.budget + handler_budget_of s.shape)
  pub stamps : Each (λ e. e.stamp ≤ length j) j
  pub clocks : (i : ℕ) → (g.locals i).clock < last_stamp

abbrev pub StampsAreSound : Type 0
StampsAreSound = (s : Setup) (j : List Entry) (g : World) → IsSetup s → Runs s (start s) j g → HasSoundStamps s j g
