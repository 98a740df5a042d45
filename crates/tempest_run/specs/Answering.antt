-- What is answered to a text.
use Rattle.std.specs.Prelude.{◌≡◌, ℕ, if◌then◌else◌, codes, length, Bool, true, false, List, [], ◌∷◌, Result, Ok, Err}
use Rattle.std.specs.List.{list_all}
use Rattle.std.specs.Fmt.{decimal}
use Rattle.tw_base.specs.declared.entry.Entry.{Entry}
use Rattle.tempest_input.specs.declared.error.InputError.{InputError}
use Rattle.tempest_input.specs.declared.error.InputError.TheVariants as errors
use Rattle.tempest_input.specs.declared.error.Why.{Why}
use Rattle.tempest_input.specs.declared.error.Why.TheVariants as why
use Rattle.tempest_input.specs.declared.layout.Body.{Body}
use Rattle.tempest_input.specs.declared.layout.Ending.{Ending}
use Rattle.tempest_input.specs.declared.layout.Ending.TheVariants as endings
use Rattle.tempest_words.specs.declared.request.Asked.{Asked}
use Rattle.tempest_words.specs.declared.request.Command.{Command}
use Rattle.tempest_words.specs.declared.request.Command.TheVariants as commands
use Rattle.teapot_tree.specs.declared.protocol.Protocol.{Protocol}
use Rattle.teapot_tree.specs.Parts.{handlers_of}
use Rattle.teapot_print.specs.Text.{canon}
use Rattle.handler_code.specs.declared.code.Code.{Code}
use Rattle.compiled_meaning.specs.Whole.{IsCode}
use Rattle.code_text.specs.Texts.{text_of}
use Rattle.dsm_runs.specs.declared.outcome.Outcome.{Outcome}
use Rattle.dsm_runs.specs.declared.outcome.Outcome.TheVariants as outcomes
use Rattle.dsm_runs.specs.Merges.{IsSorted}
use Rattle.dsm_runs.specs.Schedules.{Settles}
use Rattle.dsm_runs.specs.Setups.{Setup}
use Rattle.dsm_runs.specs.Worlds.{IsQuiet, Runs, World, start}
use Rattle.journal.specs.declared.finals.Final.{Final}
use Rattle.journal.specs.declared.reports.Options.{Options}
use Rattle.journal.specs.Finals.{counted_finals, finals_of}
use Rattle.journal.specs.Gathered.{words_of}
use Rattle.journal.specs.History.{first_break}
use Rattle.journal.specs.Laws.{History}
use Rattle.journal.specs.Reports.{report_of}
use Rattle.printed_text.specs.Lines.{line}
use Rattle.node_meaning.specs.Tallies.{Tally}
use Rattle.counted_runs.specs.Counted.{HasCounts}
use Rattle.sample_runs.specs.Samples.{sample_setup}
use Rattle.sample_runs.specs.Summaries.{summary_text}
use Rattle.sample_sums.specs.OneSummary.{one_summary}
use Rattle.tempest_trials.specs.declared.trial.Trial.{Trial}
use Rattle.tempest_trials.specs.declared.trial.Trial.TheVariants as trials
use Rattle.tempest_trials.specs.Trials.{IsAudit, IsReplay}
use Rattle.tempest_run.specs.declared.answer.Answer.{Answer}
use Rattle.tempest_run.specs.declared.status.Status.{Status}
use Rattle.tempest_run.specs.declared.status.Status.TheVariants as statuses
use Rattle.sound_runs.specs.Shipped.{IsShipped}
use Rattle.sound_runs.specs.Sound.{IsSoundToItsEnd}
use Rattle.sound_runs.specs.Stamps.{HasSoundStamps}
use Rattle.stache_cases.specs.Text.{table_text}
use Rattle.tempest_run.specs.Inputs.{input_of}
use Rattle.tempest_run.specs.OneMemory.{OneMemory}

-- ---- runs

-- A run of the model to a state in which no event can happen, with sound stamps; and what is told of its history is so: one flat
-- memory explains it, or the break is the first.
pub record IsQuietRun (s : Setup) (j : List Entry) (g : World) : Type 0 where
  pub run : Runs s (start s) j g
  pub quiet : IsQuiet s g
  pub stamps : HasSoundStamps s j g
  pub history : History s j g (first_break s j)

-- a journal of a run
abbrev pub IsRun : Setup → List Entry → Type 0
IsRun s j = (g : World) × Runs s (start s) j g

-- the quiet run of the schedule of this stride
pub record IsSerialRun (s : Setup) (stride : ℕ) (j : List Entry) (g : World) : Type 0 where
  pub schedule : Settles s stride 0 (start s) j g
  pub quiet_run : IsQuietRun s j g

abbrev pub has_halted : Outcome → Bool
has_halted outcomes.Halted = true
has_halted outcomes.Spent = false
has_halted outcomes.Stuck = false
has_halted (outcomes.Trapped why) = false
has_halted (outcomes.Failed how) = false

-- done where every node has halted
abbrev pub status_of : List Final → Status
status_of finals = if list_all (λ f. has_halted f.outcome) finals then statuses.Done else statuses.Unfinished

-- the report of a run with this journal, whose nodes ended so and left these words
abbrev pub told_answer : Setup → List Entry → List Final → List ℕ → Options → Answer
told_answer s j finals words o = record { status = status_of finals; text = report_of s j finals words (first_break s j) o }

-- the report of a run that ends in g, whose handlers made these ops and saved these records, by node
abbrev pub report_answer : Setup → List Entry → World → (ℕ → ℕ) → (ℕ → ℕ) → Options → Answer
report_answer s j g ops records o = told_answer s j (counted_finals s g ops records) (words_of s g) o

-- The answer tells of the serial run of this stride; under a shipped protocol one memory explains it, and it is sound to its
-- end. Where counts are asked for, they are those of the compiled handlers beside the run.
pub record TellsOfRun (s : Setup) (stride : ℕ) (o : Options) (a : Answer) : Type 0 where
  pub journal : List Entry
  pub state : World
  pub counts : ℕ → Tally
  pub run : IsSerialRun s stride journal state
  pub one_memory : IsShipped s.protocol → OneMemory s journal state
  pub sound : IsShipped s.protocol → IsSoundToItsEnd s journal state
  pub counted : o.counts ≡ true → HasCounts s journal state counts
  pub tells : a ≡ report_answer s journal state (λ i. (counts i).ops) (λ i. (counts i).records) o

-- ---- runs on threads

-- The answer tells of a run on threads, whichever it was: a quiet run, whose journal is by stamp and then by node. The rest is
-- as of a serial run.
pub record TellsOfThreads (s : Setup) (o : Options) (a : Answer) : Type 0 where
  pub journal : List Entry
  pub state : World
  pub counts : ℕ → Tally
  pub run : IsQuietRun s journal state
  pub sorted : IsSorted journal
  pub one_memory : IsShipped s.protocol → OneMemory s journal state
  pub sound : IsShipped s.protocol → IsSoundToItsEnd s journal state
  pub counted : o.counts ≡ true → HasCounts s journal state counts
  pub tells : a ≡ report_answer s journal state (λ i. (counts i).ops) (λ i. (counts i).records) o

-- the summary of a run of sample k that ends in g, however its nodes ended
abbrev pub sample_answer : ℕ → List Entry → World → Answer
sample_answer k j g = record {
  status = statuses.Done;
  text = summary_text k j (finals_of (sample_setup k) g) (words_of (sample_setup k) g) (first_break (sample_setup k) j);
}

-- the one answer about sample k
abbrev pub one_sample_answer : ℕ → Answer
one_sample_answer k = record { status = statuses.Done; text = one_summary k }

-- The answer tells of a run of sample k on threads, whichever it was; one memory explains it, and it is sound to its end. It is
-- the same answer whichever run it was.
pub record TellsOfSample (k : ℕ) (a : Answer) : Type 0 where
  pub journal : List Entry
  pub state : World
  pub run : IsQuietRun (sample_setup k) journal state
  pub sorted : IsSorted journal
  pub one_memory : OneMemory (sample_setup k) journal state
  pub sound : IsSoundToItsEnd (sample_setup k) journal state
  pub tells : a ≡ sample_answer k journal state
  pub one : a ≡ one_sample_answer k

-- ---- refusals, and answers about a protocol

abbrev pub why_text : Why → List ℕ
why_text why.NotAscii = codes "NotAscii"
why_text why.BadToken = codes "BadToken"
why_text why.BadLine = codes "BadLine"
why_text why.OutOfRange = codes "OutOfRange"
why_text why.Repeated = codes "Repeated"
why_text why.TooLong = codes "TooLong"
why_text why.LabelTwice = codes "LabelTwice"
why_text why.NoLabel = codes "NoLabel"
why_text why.BadNest = codes "BadNest"
why_text why.TooMany = codes "TooMany"
why_text why.Undeclared = codes "Undeclared"
why_text why.Twice = codes "Twice"
why_text why.WrongType = codes "WrongType"
why_text why.ArgCount = codes "ArgCount"
why_text why.NoDefault = codes "NoDefault"
why_text why.ContDropped = codes "ContDropped"
why_text why.ResumeNotLast = codes "ResumeNotLast"
why_text why.ResumeForeign = codes "ResumeForeign"
why_text why.AfterSuspend = codes "AfterSuspend"
why_text why.NoData = codes "NoData"
why_text why.TooManySends = codes "TooManySends"
why_text why.NotTwoStarts = codes "NotTwoStarts"

abbrev pub refusal : ℕ → Why → Answer
refusal number reason =
    record { status = statuses.Refused; text = line (codes "refused line" ∷ decimal number ∷ why_text reason ∷ []) }

-- what an accepted protocol has
abbrev pub check_answer : Protocol → Answer
check_answer p = record {
  status = statuses.Done;
  text = line (codes "accepted" ∷ p.name ∷ codes "messages" ∷ decimal (length p.messages) ∷ codes "infos" ∷ decimal
      (length p.infos)
      ∷ codes "states" ∷ decimal (length p.states) ∷ codes "handlers" ∷ decimal (length (handlers_of p)) ∷ []);
}

-- the canonical text of a protocol
abbrev pub show_answer : Protocol → Answer
show_answer p = record { status = statuses.Done; text = canon p }

-- the code of a protocol's handlers, as text
abbrev pub code_answer : Protocol → Code → Answer
code_answer p code = record { status = statuses.Done; text = text_of p code }

-- the answer tells of the code of a protocol
pub record TellsOfCode (p : Protocol) (a : Answer) : Type 0 where
  pub code : Code
  pub is_code : IsCode p code
  pub tells : a ≡ code_answer p code

-- ---- reports on trial

-- a report that is denied has a status of its own
abbrev pub trial_answer : Trial → Answer
trial_answer (trials.Stands text) = record { status = statuses.Done; text = text }
trial_answer (trials.Denied text) = record { status = statuses.Denied; text = text }

-- The answer tells whether the report is explained by one flat memory.
pub record TellsOfAudit (s : Setup) (report : Body) (a : Answer) : Type 0 where
  pub trial : Trial
  pub audit : IsAudit s report.end report.lines trial
  pub tells : a ≡ trial_answer trial

-- The answer tells what comes of so many events of the report.
pub record TellsOfReplay (count : ℕ) (s : Setup) (report : Body) (a : Answer) : Type 0 where
  pub trial : Trial
  pub replay : IsReplay count s report.end report.lines trial
  pub tells : a ≡ trial_answer trial

-- ---- the answer

-- a report has its journal and its counts where they are asked for
abbrev pub options_of : Asked → Options
options_of asked = record { journal = asked.journal; counts = asked.counts }

-- the table of the shipped protocol
abbrev pub table_answer : Answer
table_answer = record { status = statuses.Done; text = table_text }

-- the answer to a command that reads an input, where a text sets this up and has these lines of a report
abbrev pub Answers : Command → Options → Setup → Body → Answer → Type 0
Answers commands.Run o s report a = TellsOfThreads s o a
Answers (commands.Serial stride) o s report a = TellsOfRun s stride o a
Answers commands.Check o s report a = a ≡ check_answer s.protocol
Answers commands.Code o s report a = TellsOfCode s.protocol a
Answers commands.Show o s report a = a ≡ show_answer s.protocol
Answers commands.Table o s report a = ⊥
Answers (commands.Sample k) o s report a = ⊥
Answers commands.Audit o s report a = TellsOfAudit s report a
Answers (commands.Replay count) o s report a = TellsOfReplay count s report a

-- the answer to a command that reads none
abbrev pub AnswersAlone : Command → Answer → Type 0
AnswersAlone commands.Table a = a ≡ table_answer
AnswersAlone (commands.Sample k) a = TellsOfSample k a
AnswersAlone commands.Run a = ⊥
AnswersAlone (commands.Serial stride) a = ⊥
AnswersAlone commands.Check a = ⊥
AnswersAlone commands.Code a = ⊥
AnswersAlone commands.Show a = ⊥
AnswersAlone commands.Audit a = ⊥
AnswersAlone (commands.Replay count) a = ⊥

-- the answer about what a text sets up, or its refusal
abbrev pub AnswersIn : Command → Options → Result (Setup × Body) InputError → Answer → Type 0
AnswersIn command o (Ok i) a = Answers command o i.0 i.1 a
AnswersIn command o (Err (errors.Refused number reason)) a = a ≡ refusal number reason
AnswersIn command o (Err errors.Memory) a = ⊥

-- whether a command reads an input
abbrev pub reads_input : Command → Bool
reads_input commands.Run = true
reads_input (commands.Serial stride) = true
reads_input commands.Check = true
reads_input commands.Code = true
reads_input commands.Show = true
reads_input commands.Table = false
reads_input (commands.Sample k) = false
reads_input commands.Audit = true
reads_input (commands.Replay count) = true

-- where the layout of its input ends
abbrev pub ending_of : Command → Ending
ending_of commands.Run = endings.Text
ending_of (commands.Serial stride) = endings.Text
ending_of commands.Check = endings.Text
ending_of commands.Code = endings.Text
ending_of commands.Show = endings.Text
ending_of commands.Table = endings.Text
ending_of (commands.Sample k) = endings.Text
ending_of commands.Audit = endings.Report
ending_of (commands.Replay count) = endings.Report

-- whether a command makes its run on threads
abbrev pub is_threaded : Command → Bool
is_threaded commands.Run = true
is_threaded (commands.Serial stride) = false
is_threaded commands.Check = false
is_threaded commands.Code = false
is_threaded commands.Show = false
is_threaded commands.Table = false
is_threaded (commands.Sample k) = true
is_threaded commands.Audit = false
is_threaded (commands.Replay count) = false

-- about its input, or without one
abbrev pub IsAnswerIf : Bool → Command → Options → List ℕ → Answer → Type 0
IsAnswerIf true command o text a = AnswersIn command o (input_of (ending_of command) text) a
IsAnswerIf false command o text a = AnswersAlone command a

-- The answer to a text, which a command that reads none does not look at. A serial run on the model is the same run as one on
-- nodes with compiled handlers.
abbrev pub IsAnswer : Asked → List ℕ → Answer → Type 0
IsAnswer asked text a = IsAnswerIf (reads_input asked.command) asked.command (options_of asked) text a

-- the statuses with which a text is answered
abbrev pub IsAnswered : Status → Type 0
IsAnswered statuses.Done = Unit {0}
IsAnswered statuses.Refused = Unit {0}
IsAnswered statuses.Denied = Unit {0}
IsAnswered statuses.Unfinished = Unit {0}
IsAnswered statuses.Memory = ⊥
IsAnswered statuses.Usage = ⊥
IsAnswered statuses.ReadFault = ⊥
IsAnswered statuses.WriteFault = ⊥
IsAnswered statuses.TooLong = ⊥
