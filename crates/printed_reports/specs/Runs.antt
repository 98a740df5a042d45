-- What is told of a run is there.
use Rattle.std.specs.Prelude.{ℕ, List}
use Rattle.tw_base.specs.declared.entry.Entry.{Entry}
use Rattle.dsm_runs.specs.Setups.{IsSetup, Setup}
use Rattle.dsm_runs.specs.Worlds.{Runs, World, start}
use Rattle.journal.specs.Finals.{counted_finals}
use Rattle.journal.specs.Gathered.{words_of}
use Rattle.journal.specs.History.{first_break}
use Rattle.printed_reports.specs.Named.{IsToldOf}

-- The journal, the nodes, the words and the history of a run name what is there, whatever ops and records were counted.
abbrev pub RunsAreTold : Type 0
RunsAreTold =
    (s : Setup) (j : List Entry) (g : World) (ops records : ℕ → ℕ) → IsSetup s → Runs s (start s) j g →
    IsToldOf s j (counted_finals s g ops records) (words_of s g) (first_break s j)
