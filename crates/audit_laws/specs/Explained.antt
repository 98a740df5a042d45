-- Reports of runs that one flat memory explains.
use Rattle.std.specs.Prelude.{◌≡◌, ℕ, map, count_by, true, length, List, Option, Ok}
use Rattle.std.specs.List.{enumerate_from}
use Rattle.tw_base.specs.declared.entry.Entry.{Entry}
use Rattle.tw_lex.specs.declared.token.Line.{Line}
use Rattle.dsm_runs.specs.Flat.{is_completed}
use Rattle.dsm_runs.specs.Setups.{IsSetup, Setup}
use Rattle.dsm_runs.specs.Worlds.{Runs, World, start}
use Rattle.report_reader.specs.declared.lines.Printed.{Printed}
use Rattle.report_reader.specs.Reading.{report_with}
use Rattle.report_audit.specs.Audits.{audited}
use Rattle.journal.specs.declared.finals.Final.{Final}
use Rattle.journal.specs.declared.history.Break.{Break}
use Rattle.journal.specs.declared.reports.Options.{Options}
use Rattle.journal.specs.Finals.{counted_finals}
use Rattle.journal.specs.Gathered.{words_of}
use Rattle.journal.specs.History.{first_break}
use Rattle.journal.specs.Laws.{Agrees}
use Rattle.printed_lines.specs.Tokens.{entry_tokens}
use Rattle.printed_reports.specs.Reading.{IsReadBack}
use Rattle.printed_reports.specs.Reports.{history_tokens, nodes_said, prints_said, registers_said, told, words_said}

-- the lines of a report, with its events, say what was printed for this journal, these ends, these words and this history
pub record SaysReport (s : Setup) (j : List Entry) (finals : List Final) (words : List ℕ) (broken : Option Break)
    (report : Printed) : Type 0 where
  pub prints_say : map told report.prints ≡ prints_said j
  pub words_say : map told report.words ≡ words_said words
  pub registers_say : map told report.registers ≡ registers_said finals
  pub nodes_say : map told report.nodes ≡ nodes_said s.protocol finals
  pub events_say : map told report.events ≡ map (entry_tokens s.protocol) (enumerate_from 0 j)
  pub history_says : told report.history ≡ history_tokens broken

-- Where a report with its journal is read back, it says so.
abbrev pub ReadReportsSayAll : Type 0
ReadReportsSayAll =
    (s : Setup) (j : List Entry) (finals : List Final) (words : List ℕ) (broken : Option Break) (o : Options)
    (lines : List Line) →
    (b : IsReadBack s j finals words broken o lines) → o.journal ≡ true →
    SaysReport s j finals words broken (report_with b.prints b.words_told b.registers b.nodes b.events b.history)

-- Where one flat memory explains a run, and comes to the words that are told, the report of the run is explained: no rule
-- denies it.
abbrev pub ReportsOfOneMemoryAreExplained : Type 0
ReportsOfOneMemoryAreExplained =
    (s : Setup) (j : List Entry) (g : World) (ops records : ℕ → ℕ) (report : Printed) → IsSetup s → Runs s (start s) j g
    → (a : Agrees s j g) → words_of s g ≡ a.flat.words →
    SaysReport s j (counted_finals s g ops records) (words_of s g) (first_break s j) report →
    audited s report ≡ Ok (record { events = length j; completed = count_by (λ e. is_completed e.act) j })
