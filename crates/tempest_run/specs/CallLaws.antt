-- What follows from the record of a call: what each status says, and that a call which does not fail answers.
use Rattle.std.specs.Prelude.{◌≡◌, ◌≢◌, ◌⊎◌, ◌↔◌, ℕ, ◌<◌, ◌≤◌, length, true, false, List, [], Option, Some, None, Ok}
use Rattle.std.specs.Io.KnownBytes.{Appends}
use Rattle.tw_io.specs.Causes.{Rose}
use Rattle.tw_io.specs.Reading.{AppendsPrefix}
use Rattle.tw_io.specs.Told.{Told}
use Rattle.tw_base.specs.declared.entry.Entry.{Entry}
use Rattle.dsm_runs.specs.declared.outcome.Outcome.TheVariants as outcomes
use Rattle.dsm_runs.specs.Locals.{Local}
use Rattle.dsm_runs.specs.Outcomes.{outcome_of}
use Rattle.dsm_runs.specs.Setups.{Setup}
use Rattle.dsm_runs.specs.Worlds.{World}
use Rattle.sound_runs.specs.Shipped.{IsShipped}
use Rattle.sound_runs.specs.Sound.{HasSpent, HasTrapped}
use Rattle.journal.specs.declared.reports.Options.{Options}
use Rattle.tempest_input.specs.declared.layout.Body.{Body}
use Rattle.tempest_input.specs.declared.layout.Ending.{Ending}
use Rattle.tempest_words.specs.declared.request.Asked.{Asked}
use Rattle.tempest_words.specs.declared.request.Command.{Command}
use Rattle.tempest_words.specs.declared.request.Command.TheVariants as commands
use Rattle.tempest_run.specs.declared.answer.Answer.{Answer}
use Rattle.tempest_run.specs.declared.status.Status.{Status}
use Rattle.tempest_run.specs.declared.status.Status.TheVariants as statuses
use Rattle.tempest_run.specs.Answering.{Answers, AnswersAlone, IsAnswer, IsQuietRun, ending_of, options_of, reads_input}
use Rattle.tempest_run.specs.Answering.{report_answer}
use Rattle.tempest_run.specs.Calls.{IsDue, IsInput, TopCall, most_input, refused_length, refused_words}
use Rattle.tempest_run.specs.Inputs.{input_of}

-- the words ask for something, the text is its input, and this status and what was written are the answer
abbrev pub IsAnsweredWith : Option Asked → Told → Told → Told → Told → List ℕ → Status → Type 0
IsAnsweredWith asked source source' sink sink' got status =
    (q : Asked) × (a : Answer) × (asked ≡ Some q) × IsInput (reads_input q.command) source source' got × IsAnswer q got a
    × (status ≡ a.status)
    × Appends sink.bytes sink'.bytes a.text

-- what a status says, where these bytes were got
abbrev pub Says : Option Asked → Told → Told → Told → Told → List ℕ → Status → Type 0
Says asked source source' sink sink' got statuses.Usage = (asked ≡ None) × (got ≡ []) × (source' ≡ source)
    × Appends sink.bytes sink'.bytes refused_words
Says asked source source' sink sink' got statuses.TooLong = (most_input < length got)
    × Appends sink.bytes sink'.bytes refused_length
Says asked source source' sink sink' got statuses.ReadFault =
    (length got ≤ most_input) × Rose source.faults source'.faults × (sink' ≡ sink)
Says asked source source' sink sink' got statuses.Memory = sink' ≡ sink
Says asked source source' sink sink' got statuses.WriteFault =
    Rose sink.faults sink'.faults × ((due : Status) × (text : List ℕ) × IsDue asked source source' got due text
    × AppendsPrefix sink.bytes sink'.bytes text)
Says asked source source' sink sink' got statuses.Done = IsAnsweredWith asked source source' sink sink' got statuses.Done
Says asked source source' sink sink' got statuses.Refused = IsAnsweredWith asked source source' sink sink' got statuses.Refused
Says asked source source' sink sink' got statuses.Denied = IsAnsweredWith asked source source' sink sink' got statuses.Denied
Says asked source source' sink sink' got statuses.Unfinished =
    IsAnsweredWith asked source source' sink sink' got statuses.Unfinished

abbrev pub StatusesSay : Type 0
StatusesSay =
    (asked : Option Asked) (source source' sink sink' : Told) (result : Status) →
    (call : TopCall asked source source' sink sink' result)
    → Says asked source source' sink sink' call.got result

-- Where no end failed, words that are no command are refused, unless memory ran out.
abbrev pub WordsAreRefused : Type 0
WordsAreRefused =
    (source source' sink sink' : Told) (result : Status) → TopCall None source source' sink sink' result
    → ¬ Rose sink.faults sink'.faults → (result ≡ statuses.Memory) ⊎ (result ≡ statuses.Usage)

-- Where no end failed, an input that is too long is refused, unless memory ran out.
abbrev pub LengthIsRefused : Type 0
LengthIsRefused =
    (asked : Option Asked) (source source' sink sink' : Told) (result : Status) →
    (call : TopCall asked source source' sink sink' result)
    → most_input < length call.got → ¬ Rose sink.faults sink'.faults → (result ≡ statuses.Memory) ⊎ (result ≡ statuses.TooLong)

-- Where no end failed, an input that is told is answered, unless memory ran out.
abbrev pub InputIsAnswered : Type 0
InputIsAnswered =
    (q : Asked) (source source' sink sink' : Told) (result : Status) (text : List ℕ) →
    TopCall (Some q) source source' sink sink' result
    → ¬ Rose source.faults source'.faults → ¬ Rose sink.faults sink'.faults → reads_input q.command ≡ true →
    source.bytes ≡ Some text → length text ≤ most_input
    → (result ≡ statuses.Memory) ⊎ ((a : Answer) × IsAnswer q text a × (result ≡ a.status)
    × Appends sink.bytes sink'.bytes a.text)

-- ---- completeness

-- the source tells a text to its end, which ends so, sets this up, and has these lines of a report
pub record TellsOfSetup (ending : Ending) (source : Told) (s : Setup) (report : Body) : Type 0 where
  pub text : List ℕ
  pub told : source.bytes ≡ Some text
  pub short : length text ≤ most_input
  pub valid : input_of ending text ≡ Ok (s, report)

-- some node is such
abbrev pub SomeNode : Setup → World → (Local → Type 0) → Type 0
SomeNode s g P = (i : ℕ) × (i < s.shape.nodes) × P (g.locals i)

-- The status of a report says how the nodes ended: 0 exactly where all have halted, 8 exactly where one has not. Under a
-- shipped protocol that is exactly where one has trapped, or would go on and has made as many instruction events as it may.
pub record SaysHowNodesEnded (s : Setup) (g : World) (status : Status) : Type 0 where
  pub done : (status ≡ statuses.Done) ↔ ((i : ℕ) → i < s.shape.nodes → outcome_of s (g.locals i) ≡ outcomes.Halted)
  pub unfinished : (status ≡ statuses.Unfinished) ↔ SomeNode s g (λ l. outcome_of s l ≢ outcomes.Halted)
  pub under_shipped : IsShipped s.protocol → (status ≡ statuses.Unfinished) ↔ SomeNode s g (λ l. HasTrapped l ⊎ HasSpent s l)

-- the answer is the report of a run of s to this state, and its status says how the nodes ended there
pub record IsReport (s : Setup) (o : Options) (a : Answer) : Type 0 where
  pub journal : List Entry
  pub state : World
  pub ops : ℕ → ℕ
  pub records : ℕ → ℕ
  pub run : IsQuietRun s journal state
  pub tells : a ≡ report_answer s journal state ops records o
  pub says : SaysHowNodesEnded s state a.status

-- the status of an answer to a command about s is 0, of a report 0 or 8, and of a trial 0 or 7
abbrev pub HasItsStatus : Command → Options → Setup → Answer → Type 0
HasItsStatus commands.Run o s a = IsReport s o a
HasItsStatus (commands.Serial stride) o s a = IsReport s o a
HasItsStatus commands.Check o s a = a.status ≡ statuses.Done
HasItsStatus commands.Code o s a = a.status ≡ statuses.Done
HasItsStatus commands.Show o s a = a.status ≡ statuses.Done
HasItsStatus commands.Table o s a = a.status ≡ statuses.Done
HasItsStatus (commands.Sample k) o s a = a.status ≡ statuses.Done
HasItsStatus commands.Audit o s a = (a.status ≡ statuses.Done) ⊎ (a.status ≡ statuses.Denied)
HasItsStatus (commands.Replay count) o s a = (a.status ≡ statuses.Done) ⊎ (a.status ≡ statuses.Denied)

-- Where no end failed, a command is answered whose source tells a valid text, with status 0 or, where a report says so, 8, or,
-- where a report is denied, 7; unless memory ran out.
abbrev pub ValidTextsAreAnswered : Type 0
ValidTextsAreAnswered =
    (q : Asked) (source source' sink sink' : Told) (result : Status) (s : Setup) (report : Body)
    → TopCall (Some q) source source' sink sink' result → ¬ Rose source.faults source'.faults →
    ¬ Rose sink.faults sink'.faults → reads_input q.command ≡ true
    → TellsOfSetup (ending_of q.command) source s report → (result ≡ statuses.Memory)
    ⊎ ((a : Answer) × Answers q.command (options_of q) s report a × HasItsStatus q.command (options_of q) s a
    × (result ≡ a.status)
    × Appends sink.bytes sink'.bytes a.text)

-- Where no end failed, a command that reads no text is answered, with status 0, unless memory ran out.
abbrev pub OthersAreAnswered : Type 0
OthersAreAnswered =
    (q : Asked) (source source' sink sink' : Told) (result : Status) → TopCall (Some q) source source' sink sink' result
    → ¬ Rose source.faults source'.faults → ¬ Rose sink.faults sink'.faults → reads_input q.command ≡ false
    → (result ≡ statuses.Memory)
    ⊎ ((a : Answer) × AnswersAlone q.command a × (result ≡ a.status) × (result ≡ statuses.Done)
    × Appends sink.bytes sink'.bytes a.text)
