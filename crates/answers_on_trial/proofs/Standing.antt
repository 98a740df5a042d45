-- The report in an answer stands trial as every report of its run does.
use Rattle.std.proofs.Common.{◌≡◌, ℕ, ◌++◌, List, Ok, true, false, subst, sym, ap, ◌∙◌}
use Rattle.tw_base.specs.declared.entry.Entry.{Entry}
use Rattle.tw_lex.specs.declared.token.Lexed.{Lexed}
use Rattle.tw_lex.specs.Lines.{lexed}
use Rattle.dsm_runs.specs.Setups.{IsSetup, Setup}
use Rattle.dsm_runs.specs.Worlds.{Runs, World, start}
use Rattle.journal.specs.declared.reports.Options.{Options}
use Rattle.printed_reports.specs.Lexing.{ends_line}
use Rattle.run_reports.specs.Numbers.{HasSmallNumbers}
use Rattle.trial_laws.specs.Trials.{ReportsStandTrial, StandsTrial}
use Rattle.sound_runs.specs.Shipped.{IsShipped}
use Rattle.tempest_run.specs.declared.answer.Answer.{Answer}
use Rattle.tempest_run.specs.Answering.{report_answer}
use Rattle.tempest_run.specs.OneMemory.{OneMemory}
use Rattle.answers_on_trial.specs.Answers.{AnswerStandsTrial, SerialAnswersStandTrial, ThreadAnswersStandTrial}

told :
    ReportsStandTrial → (s : Setup) (j : List Entry) (g : World) (ops records : ℕ → ℕ) (o : Options) (a : Answer)
    (before : List ℕ) (found : Lexed) → IsSetup s → HasSmallNumbers s → Runs s (start s) j g →
    (IsShipped s.protocol → OneMemory s j g) → a ≡ report_answer s j g ops records o → o.journal ≡ true →
    o.counts ≡ false → ends_line before ≡ true → lexed before ≡ Ok found → AnswerStandsTrial found before s a
told stand s j g ops records o a before found is small r one tells asked none ends lexes =
    let there = stand s j g ops records o before found is small r asked (λ some. absurd cc) ends lexes in
    let trial : StandsTrial found (before ++ a.text) s j g =
    subst (λ text. StandsTrial found (before ++ text) s j g) (sym (ap (λ x. x.text) tells)) there in
    record {
      journal = j;
      state = g;
      run = r;
      trial = trial;
      accepted = λ shipped. trial.explained (one shipped).agrees (one shipped).words;
    }

pub serial : ReportsStandTrial → SerialAnswersStandTrial
serial stand stride s o a before found is small t =
    told stand s t.journal t.state (λ i. (t.counts i).ops) (λ i. (t.counts i).records) o a before found is small
    t.run.quiet_run.run t.one_memory t.tells

pub on_threads : ReportsStandTrial → ThreadAnswersStandTrial
on_threads stand s o a before found is small t =
    told stand s t.journal t.state (λ i. (t.counts i).ops) (λ i. (t.counts i).records) o a before found is small t.run.run
    t.one_memory t.tells
