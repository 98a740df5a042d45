-- Answers with their journal, on trial behind the text that was answered.
use Rattle.std.specs.Prelude.{◌≡◌, ℕ, ◌++◌, count_by, true, false, length, List, Ok}
use Rattle.tw_base.specs.declared.entry.Entry.{Entry}
use Rattle.tw_lex.specs.declared.token.Lexed.{Lexed}
use Rattle.tw_lex.specs.Lines.{lexed}
use Rattle.dsm_runs.specs.Flat.{is_completed}
use Rattle.dsm_runs.specs.Setups.{IsSetup, Setup}
use Rattle.dsm_runs.specs.Worlds.{Runs, World, start}
use Rattle.report_audit.specs.Audits.{audited}
use Rattle.journal.specs.declared.reports.Options.{Options}
use Rattle.printed_reports.specs.Lexing.{ends_line}
use Rattle.run_reports.specs.Numbers.{HasSmallNumbers}
use Rattle.trial_laws.specs.Trials.{StandsTrial}
use Rattle.sound_runs.specs.Shipped.{IsShipped}
use Rattle.tempest_run.specs.declared.answer.Answer.{Answer}
use Rattle.tempest_run.specs.Answering.{TellsOfRun, TellsOfThreads}

-- The answer tells of a run, and its text stands trial behind the one before; under a shipped protocol no rule denies it: each
-- of its instructions was completed as one flat memory would have it.
pub record AnswerStandsTrial (found : Lexed) (before : List ℕ) (s : Setup) (a : Answer) : Type 0 where
  pub journal : List Entry
  pub state : World
  pub run : Runs s (start s) journal state
  pub trial : StandsTrial found (before ++ a.text) s journal state
  pub accepted :
      IsShipped s.protocol →
      audited s trial.report ≡ Ok (record { events = length journal; completed = count_by (λ e. is_completed e.act) journal })

-- What holds of answers that tell so of a setup: asked for with its journal and without counts, each stands trial behind any
-- text that ends its last line.
abbrev pub AnswersStandTrial : (Setup → Options → Answer → Type 0) → Type 0
AnswersStandTrial Tells =
    (s : Setup) (o : Options) (a : Answer) (before : List ℕ) (found : Lexed) →
    IsSetup s → HasSmallNumbers s → Tells s o a → o.journal ≡ true → o.counts ≡ false → ends_line before ≡ true →
    lexed before ≡ Ok found → AnswerStandsTrial found before s a

abbrev pub SerialAnswersStandTrial : Type 0
SerialAnswersStandTrial = (stride : ℕ) → AnswersStandTrial (λ s o a. TellsOfRun s stride o a)

abbrev pub ThreadAnswersStandTrial : Type 0
ThreadAnswersStandTrial = AnswersStandTrial TellsOfThreads
