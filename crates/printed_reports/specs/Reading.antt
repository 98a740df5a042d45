-- Reports that are read as they were printed.
use Rattle.std.specs.Prelude.{◌≡◌, ℕ, ◌+◌, map, true, length, List, ◌++◌, Option, Ok}
use Rattle.tw_base.specs.declared.entry.Entry.{Entry}
use Rattle.tw_lex.specs.declared.token.Lexed.{Lexed}
use Rattle.tw_lex.specs.declared.token.Line.{Line}
use Rattle.tw_lex.specs.Lines.{lexed}
use Rattle.dsm_runs.specs.Setups.{IsSetup, Setup}
use Rattle.report_reader.specs.Reading.{read_in, report_with}
use Rattle.journal.specs.declared.finals.Final.{Final}
use Rattle.journal.specs.declared.history.Break.{Break}
use Rattle.journal.specs.declared.reports.Options.{Options}
use Rattle.journal.specs.Reports.{report_of}
use Rattle.printed_reports.specs.Lexing.{ends_line}
use Rattle.printed_reports.specs.Named.{AreSmall, IsToldOf}
use Rattle.printed_reports.specs.Reports.{counts_said, events_said, history_tokens, nodes_said, prints_said, registers_said}
use Rattle.printed_reports.specs.Reports.{report_said, said, words_said}

-- These lines are read as the report of this setup, journal, ends, words and history: the lines of each kind say what was
-- printed, in that order, and nothing else stands between.
pub record IsReadBack (s : Setup) (j : List Entry) (finals : List Final) (words : List ℕ) (broken : Option Break) (o : Options)
    (lines : List Line) : Type 0 where
  pub prints : List Line
  pub words_told : List Line
  pub registers : List Line
  pub nodes : List Line
  pub counts : List Line
  pub events : List Line
  pub history : Line
  pub prints_say : map said prints ≡ prints_said j
  pub words_say : map said words_told ≡ words_said words
  pub registers_say : map said registers ≡ registers_said finals
  pub nodes_say : map said nodes ≡ nodes_said s.protocol finals
  pub counts_say : map said counts ≡ counts_said o.counts finals
  pub events_say : map said events ≡ events_said o.journal s.protocol j
  pub history_says : said history ≡ history_tokens broken
  pub is_read : (after : ℕ) → read_in s.version s.shape after lines ≡ Ok
      (report_with prints words_told registers nodes events history)

-- Lines that say what the lines of a report do are read as it.
abbrev pub PrintedReportsAreRead : Type 0
PrintedReportsAreRead =
    (s : Setup) (j : List Entry) (finals : List Final) (words : List ℕ) (broken : Option Break) (o : Options)
    (lines : List Line) →
    IsToldOf s j finals words broken → map said lines ≡ report_said s j finals words broken o
    → IsReadBack s j finals words broken o lines

-- the lines of a text with a report behind it, and the report's own: these say what its lines were printed for
pub record IsBehind (found : Lexed) (text : List ℕ) (s : Setup) (j : List Entry) (finals : List Final) (words : List ℕ)
    (broken : Option Break) (o : Options) : Type 0 where
  pub lines : List Line
  pub are : lexed text ≡ Ok (record { all = found.all + length lines; list = found.list ++ lines })
  pub say : map said lines ≡ report_said s j finals words broken o

-- A report behind a text that ends its last line has the lines that it was printed for.
abbrev pub PrintedReportsAreLexed : Type 0
PrintedReportsAreLexed =
    (s : Setup) (j : List Entry) (finals : List Final) (words : List ℕ) (broken : Option Break) (o : Options) (before : List ℕ)
    (found : Lexed) →
    IsSetup s → IsToldOf s j finals words broken → AreSmall j finals words broken o → ends_line before ≡ true
    → lexed before ≡ Ok found →
    IsBehind found (before ++ report_of s j finals words broken o) s j finals words broken o
