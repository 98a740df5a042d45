-- Reports of runs stand trial, read back behind the text of their input.
use Rattle.std.specs.Prelude.{◌≡◌, ◌≤◌, ℕ, ◌+◌, ◌++◌, count_by, true, length, List, Result, Ok}
use Rattle.tw_base.specs.Lists.{Each}
use Rattle.tw_base.specs.declared.entry.Entry.{Entry}
use Rattle.tw_lex.specs.declared.token.Lexed.{Lexed}
use Rattle.tw_lex.specs.declared.token.Line.{Line}
use Rattle.tw_lex.specs.Lines.{lexed}
use Rattle.dsm_runs.specs.Flat.{is_completed}
use Rattle.dsm_runs.specs.Setups.{IsSetup, Setup}
use Rattle.dsm_runs.specs.Worlds.{Runs, World, start}
use Rattle.report_reader.specs.declared.lines.Printed.{Printed}
use Rattle.report_reader.specs.Reading.{read_in}
use Rattle.report_audit.specs.Audits.{audited}
use Rattle.journal.specs.declared.reports.Options.{Options}
use Rattle.journal.specs.Finals.{counted_finals}
use Rattle.journal.specs.Gathered.{words_of}
use Rattle.journal.specs.Laws.{Agrees}
use Rattle.printed_reports.specs.Lexing.{ends_line}
use Rattle.printed_reports.specs.Named.{HasSmallCounts}
use Rattle.run_reports.specs.Numbers.{HasSmallNumbers}
use Rattle.run_reports.specs.Reports.{report_text}
use Rattle.report_reader.specs.declared.error.AuditError.{AuditError}
use Rattle.report_replay.specs.Replaying.{Replays}
use Rattle.replay_laws.specs.Laws.{IsReplayed}

-- The lines of a text with the report of a run behind it. Those of the report are read as it, wherever a missing line would
-- be. For each number of events that it has it is replayed to what the run came to by then, and to nothing else. Where one flat
-- memory explains the run, and comes to the words that are told, the report is explained.
pub record StandsTrial (found : Lexed) (text : List ℕ) (s : Setup) (j : List Entry) (g : World) : Type 0 where
  pub lines : List Line
  pub report : Printed
  pub are : lexed text ≡ Ok (record { all = found.all + length lines; list = found.list ++ lines })
  pub is_read : (after : ℕ) → read_in s.version s.shape after lines ≡ Ok report
  pub replayed : (k : ℕ) → k ≤ length j → IsReplayed s j report k
  pub only :
      (k : ℕ) (le : k ≤ length j) (end : Result World AuditError) → Replays s report k end → end ≡ Ok (replayed k le).reached
  pub explained :
      (a : Agrees s j g) → words_of s g ≡ a.flat.words →
      audited s report ≡ Ok (record { events = length j; completed = count_by (λ e. is_completed e.act) j })

-- The report of a run, with its journal, stands trial behind any text that ends its last line.
abbrev pub ReportsStandTrial : Type 0
ReportsStandTrial =
    (s : Setup) (j : List Entry) (g : World) (ops records : ℕ → ℕ) (o : Options) (before : List ℕ) (found : Lexed) →
    IsSetup s → HasSmallNumbers s → Runs s (start s) j g → o.journal ≡ true
    → (o.counts ≡ true → Each HasSmallCounts (counted_finals s g ops records)) →
    ends_line before ≡ true → lexed before ≡ Ok found → StandsTrial found (before ++ report_text s j g ops records o) s j g
