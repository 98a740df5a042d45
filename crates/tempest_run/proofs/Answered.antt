-- An answer is one.
use Rattle.std.proofs.Common.{◌≡◌, ℕ, List, Bool, true, false, if◌then◌else◌, Result, Ok, Err, refl, sym, ap, subst, ◌∙◌}
use Rattle.tw_base.specs.declared.entry.Entry.{Entry}
use Rattle.tempest_input.specs.declared.error.InputError.{InputError}
use Rattle.tempest_input.specs.declared.error.InputError.TheVariants.{Refused, Memory}
use Rattle.tempest_input.specs.declared.layout.Body.{Body}
use Rattle.tempest_trials.specs.declared.trial.Trial.{Trial}
use Rattle.tempest_trials.specs.declared.trial.Trial.TheVariants as trials
use Rattle.tempest_trials.specs.Laws.{TrialsAreOne}
use Rattle.tempest_words.specs.declared.request.Command.{Command}
use Rattle.tempest_words.specs.declared.request.Command.TheVariants.{Audit, Check, Code as ForCode, Replay, Run, Sample, Show}
use Rattle.tempest_words.specs.declared.request.Command.TheVariants.{Serial, Table}
use Rattle.dsm_runs.specs.Schedules.{Settles}
use Rattle.dsm_runs.specs.Setups.{Setup}
use Rattle.dsm_runs.specs.Worlds.{World, start}
use Rattle.journal.specs.declared.reports.Options.{Options}
use Rattle.teapot_tree.specs.declared.protocol.Protocol.{Protocol}
use Rattle.handler_code.specs.declared.code.Code.{Code}
use Rattle.compiled_meaning.specs.Whole.{IsCode}
use Rattle.tempest_run.specs.declared.answer.Answer.{Answer}
use Rattle.tempest_run.specs.Answering.{Answers, AnswersAlone, AnswersIn, IsAnswerIf, IsAnswered, TellsOfAudit, TellsOfCode}
use Rattle.tempest_run.specs.Answering.{TellsOfReplay, TellsOfRun, check_answer, code_answer}
use Rattle.tempest_run.specs.Answering.{ending_of, has_halted, reads_input, refusal, report_answer, sample_answer, show_answer}
use Rattle.tempest_run.specs.Answering.{status_of, table_answer, trial_answer}
use Rattle.tempest_run.specs.Laws.{AnswerIsOne, has_many_answers}
use Rattle.tempest_run.specs.declared.status.Status.TheVariants.{Done, Unfinished}
use Rattle.tempest_run.proofs.CallLaws.{AnswersAnswer}
use Rattle.tempest_run.proofs.Uncounted.{counts_unseen}
use Rattle.journal.specs.Finals.{counted_finals}
use Rattle.node_meaning.specs.Tallies.{Tally}
use Rattle.counted_runs.specs.Counted.{CountsAreOne, HasCounts}
use Rattle.journal.specs.declared.finals.Final.{Final}
use Rattle.std.specs.List.{list_all}
use Rattle.tempest_run.specs.Inputs.{input_of}

-- two runs of one schedule are one run
abbrev pub RunsAreOne : Type 0
RunsAreOne = (s : Setup) (stride t : ℕ) (g : World) (es fs : List Entry) (h k : World) → Settles s stride t g es h →
    Settles s stride t g fs k → (es ≡ fs) × (h ≡ k)

-- a protocol has one code
abbrev pub CodesAreOne : Type 0
CodesAreOne = (p : Protocol) (a b : Code) → IsCode p a → IsCode p b → a ≡ b

-- a run has one tally for each node
same_counts :
    CountsAreOne → (s : Setup) (j k : List Entry) (g h : World) (a b : ℕ → Tally) → j ≡ k → HasCounts s j g a →
    HasCounts s k h b → a ≡ b
same_counts one s j k g h a b e p q = one s j g h a b p (subst (λ (es : List Entry). HasCounts s es h b) (sym e) q)

-- where no counts are asked for, a report is the same whatever was counted
same_report :
    (s : Setup) (o : Options) (j k : List Entry) (g h : World) (x y : ℕ → Tally) → j ≡ k → g ≡ h → (o.counts ≡ true → x ≡ y) →
    report_answer s j g (λ i. (x i).ops) (λ i. (x i).records) o ≡ report_answer s k h (λ i. (y i).ops) (λ i. (y i).records) o
same_report s o j k g h x y e f counts =
    ap (λ es. report_answer s es g (λ i. (x i).ops) (λ i. (x i).records) o) e
    ∙ ap (λ w. report_answer s k w (λ i. (x i).ops) (λ i. (x i).records) o) f ∙ go o.counts refl
  where
    go : (asked : Bool) → o.counts ≡ asked →
        report_answer s k h (λ i. (x i).ops) (λ i. (x i).records) o ≡ report_answer s k h (λ i. (y i).ops) (λ i. (y i).records) o
    go true is = ap (λ (t : ℕ → Tally). report_answer s k h (λ i. (t i).ops) (λ i. (t i).records) o) (counts is)
    go false is =
        counts_unseen s k h (λ i. (x i).ops) (λ i. (x i).records) o is
        ∙ sym (counts_unseen s k h (λ i. (y i).ops) (λ i. (y i).records) o is)

one_tale :
    RunsAreOne → CountsAreOne → (s : Setup) (stride : ℕ) (o : Options) (a b : Answer) → TellsOfRun s stride o a →
    TellsOfRun s stride o b → a ≡ b
one_tale one counts s stride o a b x y =
    let same = one s stride 0 (start s) x.journal y.journal x.state y.state x.run.schedule y.run.schedule in
    x.tells
    ∙ same_report s o x.journal y.journal x.state y.state x.counts y.counts same.0 same.1
    (λ asked.
    same_counts counts s x.journal y.journal x.state y.state x.counts y.counts same.0 (x.counted asked) (y.counted asked))
    ∙ sym y.tells

one_text : CodesAreOne → (p : Protocol) (a b : Answer) → TellsOfCode p a → TellsOfCode p b → a ≡ b
one_text one p a b x y = x.tells ∙ ap (λ code. code_answer p code) (one p x.code y.code x.is_code y.is_code) ∙ sym y.tells

-- a report is audited once, and so many of its events are made anew once
one_audit : TrialsAreOne → (s : Setup) (report : Body) (a b : Answer) → TellsOfAudit s report a → TellsOfAudit s report b → a ≡ b
one_audit one s report a b x y = x.tells
    ∙ ap trial_answer (one.audit s report.end report.lines x.trial y.trial x.audit y.audit) ∙ sym y.tells

one_replay : TrialsAreOne → (count : ℕ) (s : Setup) (report : Body) (a b : Answer) → TellsOfReplay count s report a →
    TellsOfReplay count s report b → a ≡ b
one_replay one count s report a b x y =
    x.tells ∙ ap trial_answer (one.replay count s report.end report.lines x.trial y.trial x.replay y.replay) ∙ sym y.tells

-- the laws below, that this one is over
pub record Laws : Type 0 where
  pub runs : RunsAreOne
  pub counts : CountsAreOne
  pub codes : CodesAreOne
  pub trials : TrialsAreOne

one_about :
    Laws → (command : Command) (o : Options) (s : Setup) (report : Body) (a b : Answer) → has_many_answers command ≡ false →
    Answers command o s report a → Answers command o s report b → a ≡ b
one_about laws Run o s report a b plain x y = absurd cc
one_about laws (Serial stride) o s report a b plain x y = one_tale laws.runs laws.counts s stride o a b x y
one_about laws Check o s report a b plain x y = x ∙ sym y
one_about laws ForCode o s report a b plain x y = one_text laws.codes s.protocol a b x y
one_about laws Show o s report a b plain x y = x ∙ sym y
one_about laws Table o s report a b plain x y = absurd x
one_about laws (Sample k) o s report a b plain x y = absurd x
one_about laws Audit o s report a b plain x y = one_audit laws.trials s report a b x y
one_about laws (Replay count) o s report a b plain x y = one_replay laws.trials count s report a b x y

one_in :
    Laws → (command : Command) (o : Options) (r : Result (Setup × Body) InputError) (a b : Answer) →
    has_many_answers command ≡ false → AnswersIn command o r a → AnswersIn command o r b → a ≡ b
one_in laws command o (Ok i) a b plain x y = one_about laws command o i.0 i.1 a b plain x y
one_in laws command o (Err (Refused number reason)) a b plain x y = x ∙ sym y
one_in laws command o (Err Memory) a b plain x y = absurd x

one_alone : (command : Command) (a b : Answer) → has_many_answers command ≡ false → AnswersAlone command a →
    AnswersAlone command b → a ≡ b
one_alone Table a b plain x y = x ∙ sym y
one_alone (Sample k) a b plain x y = x.one ∙ sym y.one
one_alone Run a b plain x y = absurd x
one_alone (Serial stride) a b plain x y = absurd x
one_alone Check a b plain x y = absurd x
one_alone ForCode a b plain x y = absurd x
one_alone Show a b plain x y = absurd x
one_alone Audit a b plain x y = absurd x
one_alone (Replay count) a b plain x y = absurd x

one_if :
    Laws → (reads : Bool) (command : Command) (o : Options) (text : List ℕ) (a b : Answer) →
    has_many_answers command ≡ false → IsAnswerIf reads command o text a → IsAnswerIf reads command o text b → a ≡ b
one_if laws true command o text a b plain x y = one_in laws command o (input_of (ending_of command) text) a b plain x y
one_if laws false command o text a b plain x y = one_alone command a b plain x y

pub one_answer : Laws → AnswerIsOne
one_answer laws asked text a b plain x y = one_if laws (reads_input asked.command) asked.command _ text a b plain x y

-- ---- the statuses of answers

report-status : (fs : List Final) → IsAnswered (status_of fs)
report-status fs = elim (list_all (λ f. has_halted f.outcome) fs) as (λ b. IsAnswered (if b then Done else Unfinished))
    [ true ↦ tt | false ↦ tt ]

status-along : (a b : Answer) → a ≡ b → IsAnswered b.status → IsAnswered a.status
status-along a b e is = subst (λ (x : Answer). IsAnswered x.status) (sym e) is

told-status :
    (s : Setup) (j : List Entry) (g : World) (ops records : ℕ → ℕ) (o : Options) (a : Answer) →
    a ≡ report_answer s j g ops records o →
    IsAnswered a.status
told-status s j g ops records o a e =
    status-along a (report_answer s j g ops records o) e (report-status (counted_finals s g ops records))

trial-status : (t : Trial) → IsAnswered (trial_answer t).status
trial-status (trials.Stands text) = tt
trial-status (trials.Denied text) = tt

about-status : (command : Command) (o : Options) (s : Setup) (report : Body) (a : Answer) → Answers command o s report a →
    IsAnswered a.status
about-status Run o s report a x = told-status s x.journal x.state (λ i. (x.counts i).ops) (λ i. (x.counts i).records) o a x.tells
about-status (Serial stride) o s report a x =
    told-status s x.journal x.state (λ i. (x.counts i).ops) (λ i. (x.counts i).records) o a x.tells
about-status Check o s report a x = status-along a (check_answer s.protocol) x tt
about-status ForCode o s report a x = status-along a (code_answer s.protocol x.code) x.tells tt
about-status Show o s report a x = status-along a (show_answer s.protocol) x tt
about-status Table o s report a x = absurd x
about-status (Sample k) o s report a x = absurd x
about-status Audit o s report a x = status-along a (trial_answer x.trial) x.tells (trial-status x.trial)
about-status (Replay count) o s report a x = status-along a (trial_answer x.trial) x.tells (trial-status x.trial)

in-status : (command : Command) (o : Options) (r : Result (Setup × Body) InputError) (a : Answer) → AnswersIn command o r a →
    IsAnswered a.status
in-status command o (Ok i) a x = about-status command o i.0 i.1 a x
in-status command o (Err (Refused number reason)) a x = status-along a (refusal number reason) x tt
in-status command o (Err Memory) a x = absurd x

alone-status : (command : Command) (a : Answer) → AnswersAlone command a → IsAnswered a.status
alone-status Table a x = status-along a table_answer x tt
alone-status (Sample k) a x = status-along a (sample_answer k x.journal x.state) x.tells tt
alone-status Run a x = absurd x
alone-status (Serial stride) a x = absurd x
alone-status Check a x = absurd x
alone-status ForCode a x = absurd x
alone-status Show a x = absurd x
alone-status Audit a x = absurd x
alone-status (Replay count) a x = absurd x

if-status : (reads : Bool) (command : Command) (o : Options) (text : List ℕ) (a : Answer) → IsAnswerIf reads command o text a →
    IsAnswered a.status
if-status true command o text a x = in-status command o (input_of (ending_of command) text) a x
if-status false command o text a x = alone-status command a x

-- a text is answered with one of four statuses
pub answers-answer : AnswersAnswer
answers-answer q text a x = if-status (reads_input q.command) q.command _ text a x
