-- The report of a run, behind a text, is read as it was printed.
use Rattle.std.specs.Prelude.{◌≡◌, ℕ, ◌+◌, true, length, List, ◌++◌, Ok}
use Rattle.tw_base.specs.Lists.{Each}
use Rattle.tw_base.specs.declared.entry.Entry.{Entry}
use Rattle.tw_lex.specs.declared.token.Lexed.{Lexed}
use Rattle.tw_lex.specs.declared.token.Line.{Line}
use Rattle.tw_lex.specs.Lines.{lexed}
use Rattle.dsm_runs.specs.Setups.{IsSetup, Setup}
use Rattle.dsm_runs.specs.Worlds.{Runs, World, start}
use Rattle.journal.specs.declared.reports.Options.{Options}
use Rattle.journal.specs.Finals.{counted_finals}
use Rattle.journal.specs.Gathered.{words_of}
use Rattle.journal.specs.History.{first_break}
use Rattle.journal.specs.Reports.{report_of}
use Rattle.printed_reports.specs.Lexing.{ends_line}
use Rattle.printed_reports.specs.Named.{HasSmallCounts}
use Rattle.printed_reports.specs.Reading.{IsReadBack}
use Rattle.run_reports.specs.Numbers.{HasSmallNumbers}

-- the report of a run to g, whose handlers made these ops and saved these records
abbrev pub report_text : Setup → List Entry → World → (ℕ → ℕ) → (ℕ → ℕ) → Options → List ℕ
report_text s j g ops records o = report_of s j (counted_finals s g ops records) (words_of s g) (first_break s j) o

-- the lines of a text with this report behind it: those of the report are read as it
pub record IsReadBehind (found : Lexed) (text : List ℕ) (s : Setup) (j : List Entry) (g : World) (ops records : ℕ → ℕ)
    (o : Options) : Type 0 where
  pub lines : List Line
  pub are : lexed text ≡ Ok (record { all = found.all + length lines; list = found.list ++ lines })
  pub read : IsReadBack s j (counted_finals s g ops records) (words_of s g) (first_break s j) o lines

-- The report of a run stands behind any text that ends its last line, and is read there as it was printed: no line of it is at
-- fault, and the lines of its events say what the journal's entries do.
abbrev pub ReportsOfRunsAreReadBack : Type 0
ReportsOfRunsAreReadBack =
    (s : Setup) (j : List Entry) (g : World) (ops records : ℕ → ℕ) (o : Options) (before : List ℕ) (found : Lexed) → IsSetup s
    → HasSmallNumbers s → Runs s (start s) j g →
    (o.counts ≡ true → Each HasSmallCounts (counted_finals s g ops records)) → ends_line before ≡ true
    → lexed before ≡ Ok found →
    IsReadBehind found (before ++ report_text s j g ops records o) s j g ops records o
