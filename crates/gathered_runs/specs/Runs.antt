-- The run of the model that gathered logs are.
use Rattle.std.specs.Prelude.{ℕ, ◌<◌, List, length}
use Rattle.tw_base.specs.declared.entry.Entry.{Entry}
use Rattle.compiled_meaning.specs.Whole.{IsCode}
use Rattle.handler_code.specs.declared.code.Code.{Code}
use Rattle.counted_runs.specs.Counted.{HasCounts}
use Rattle.dsm_runs.specs.Laws.{IsLog}
use Rattle.dsm_runs.specs.Merges.{IsMerge}
use Rattle.dsm_runs.specs.Setups.{IsSetup, Setup}
use Rattle.dsm_runs.specs.Worlds.{Runs, World, start}
use Rattle.node_meaning.specs.Tallies.{Tally}
use Rattle.still_meaning.specs.Gathers.{GatheredShown, IsGathered, TellsOf, log_of}

-- The journal is a run from the start to a quiet state, with these counts, and that state is told.
pub record IsToldRun (s : Setup) (journal : List Entry) (r : GatheredShown) : Type 0 where
  pub state : World
  pub counts : ℕ → Tally
  pub run : Runs s (start s) journal state
  pub counted : HasCounts s journal state counts
  pub tells : TellsOf s state counts r

-- each is the log of its node
abbrev pub GatheredLogsAreLogs : Type 0
GatheredLogsAreLogs =
    (s : Setup) (code : Code) (g : World) (r : GatheredShown) → IsGathered s code g r →
    (i : ℕ) → i < length r.logs → IsLog i (log_of r.logs i)

abbrev pub GatheredLogsAreARun : Type 0
GatheredLogsAreARun =
    (s : Setup) (code : Code) (g : World) (r : GatheredShown) (journal : List Entry) →
    IsSetup s →
    IsCode s.protocol code →
    IsGathered s code g r →
    IsMerge s.shape.nodes (log_of r.logs) journal →
    IsToldRun s journal r
