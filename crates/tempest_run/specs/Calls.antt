-- What one call of the program does, from the words and the source to what is written and the status.
use Rattle.std.specs.Prelude.{◌≡◌, ℕ, ◌<◌, ◌≤◌, codes, length, Bool, true, false, List, [], Option, Some, None, Result, Ok, Err}
use Rattle.std.specs.Io.KnownBytes.{Appends, Consumes, IsAtEnd}
use Rattle.tw_io.specs.Causes.{Rose}
use Rattle.tw_io.specs.Reading.{AppendsPrefix}
use Rattle.tw_io.specs.Told.{Told}
use Rattle.tempest_words.specs.declared.request.Asked.{Asked}
use Rattle.tempest_run.specs.declared.answer.Answer.{Answer}
use Rattle.tempest_run.specs.declared.due.Due.{Due}
use Rattle.tempest_run.specs.declared.due.Due.TheVariants as dues
use Rattle.tempest_run.specs.declared.given.Given.{Given}
use Rattle.tempest_run.specs.declared.given.Given.TheVariants as givens
use Rattle.tempest_run.specs.declared.given.Stopped.{Stopped}
use Rattle.tempest_run.specs.declared.given.Stopped.TheVariants as stops
use Rattle.tempest_run.specs.declared.status.Status.{Status}
use Rattle.tempest_run.specs.declared.status.Status.TheVariants as statuses
use Rattle.tempest_run.specs.Answering.{IsAnswer, is_threaded, reads_input}

-- what an end tells of its bytes, and how often it failed
abbrev pub told : Option (List ℕ) → ℕ → Told
told bytes faults = record { bytes = bytes; faults = faults }

-- how many bytes an input may have
abbrev pub most_input : ℕ
most_input = 1048576

-- The text of a command is its whole input, of as many bytes as it may have; and empty where it reads none, with the source
-- as it was.
abbrev pub IsInput : Bool → Told → Told → List ℕ → Type 0
IsInput true source source' got = (length got ≤ most_input) × IsAtEnd source'.bytes
IsInput false source source' got = (got ≡ []) × (source' ≡ source)

-- ---- what is due

abbrev pub refused_words : List ℕ
refused_words = codes "refused words\n"

abbrev pub refused_length : List ℕ
refused_length = codes "refused length\n"

-- the status and the text that are due where the words ask for this, and these bytes were got from the source
pub data IsDue (asked : Option Asked) (source source' : Told) (got : List ℕ) : Status → List ℕ → Type 0 where
  -- the words are no command, and the source is as it was
  bad_words : asked ≡ None → got ≡ [] → source' ≡ source → IsDue asked source source' got statuses.Usage refused_words
  -- byte 1,048,577 was got, for a command that reads an input
  bad_length : (q : Asked) → asked ≡ Some q → reads_input q.command ≡ true → most_input < length got →
      IsDue asked source source' got statuses.TooLong refused_length
  answered : (q : Asked) (a : Answer) → asked ≡ Some q → IsInput (reads_input q.command) source source' got → IsAnswer q got a
      → IsDue asked source source' got a.status a.text

-- ---- how a call ends

pub data Ends (asked : Option Asked) (source source' sink sink' : Told) (got : List ℕ) : Status → Type 0 where
  -- what was due was written
  wrote : (due : Status) (text : List ℕ) → IsDue asked source source' got due text → Appends sink.bytes sink'.bytes text
      → Ends asked source source' sink sink' got due
  -- the sink failed, and a front of what was due was written
  write_fault : (due : Status) (text : List ℕ) → IsDue asked source source' got due text →
      AppendsPrefix sink.bytes sink'.bytes text
      → Rose sink.faults sink'.faults → Ends asked source source' sink sink' got statuses.WriteFault
  -- the source failed behind as many bytes as an input may have, or fewer, for a command that reads one, and the sink is as it
  -- was
  read_fault : (q : Asked) → asked ≡ Some q → reads_input q.command ≡ true → length got ≤ most_input →
      Rose source.faults source'.faults → sink' ≡ sink
      → Ends asked source source' sink sink' got statuses.ReadFault
  -- memory ran out, perhaps before it was known what the words ask for, and the sink is as it was
  no_memory : sink' ≡ sink → Ends asked source source' sink sink' got statuses.Memory

-- A call with words that ask for this, between a source and a sink as they were and as it leaves them.
pub record TopCall (asked : Option Asked) (source source' sink sink' : Told) (result : Status) : Type 0 where
  -- the bytes that were got, which are gone from the source
  pub got : List ℕ
  pub gone : Consumes source.bytes source'.bytes got
  -- no count of faults falls
  pub reads : source.faults ≤ source'.faults
  pub writes : sink.faults ≤ sink'.faults
  pub ends : Ends asked source source' sink sink' got result

-- ---- the parts of a call

-- what the words and the source gave, with the bytes that were got
abbrev pub IsGiven : Option Asked → Told → Told → List ℕ → Result Given Stopped → Type 0
IsGiven asked source source' got (Ok givens.NoCommand) = (asked ≡ None) × (got ≡ []) × (source' ≡ source)
IsGiven asked source source' got (Ok givens.TooLong) =
    (q : Asked) × (asked ≡ Some q) × (reads_input q.command ≡ true) × (most_input < length got)
IsGiven asked source source' got (Ok (givens.Text q text)) =
    (asked ≡ Some q) × (text ≡ got) × IsInput (reads_input q.command) source source' got
IsGiven asked source source' got (Err stops.ReadFault) =
    (q : Asked) × (asked ≡ Some q) × (reads_input q.command ≡ true) × (length got ≤ most_input)
    × Rose source.faults source'.faults
IsGiven asked source source' got (Err stops.Memory) = Unit {0}

pub record Gives (asked : Option Asked) (source source' : Told) (result : Result Given Stopped) : Type 0 where
  pub got : List ℕ
  pub gone : Consumes source.bytes source'.bytes got
  pub reads : source.faults ≤ source'.faults
  pub given : IsGiven asked source source' got result

-- the text that was given is no longer than it may be
abbrev pub IsShort : Given → Type 0
IsShort givens.NoCommand = Unit {0}
IsShort givens.TooLong = Unit {0}
IsShort (givens.Text q text) = length text ≤ most_input

-- the run that is asked for is not made on threads
abbrev pub IsPlain : Given → Type 0
IsPlain givens.NoCommand = Unit {0}
IsPlain givens.TooLong = Unit {0}
IsPlain (givens.Text q text) = is_threaded q.command ≡ false

-- memory is wanted for the answer to a text alone
abbrev pub IsText : Given → Type 0
IsText givens.NoCommand = ⊥
IsText givens.TooLong = ⊥
IsText (givens.Text q text) = Unit {0}

-- what is due for what was given
abbrev pub IsDueFor : Given → Due → Type 0
IsDueFor givens.NoCommand d = d ≡ dues.BadWords
IsDueFor givens.TooLong d = d ≡ dues.BadLength
IsDueFor (givens.Text q text) d = (a : Answer) × (d ≡ dues.Answered a) × IsAnswer q text a

abbrev pub due_status : Due → Status
due_status dues.BadWords = statuses.Usage
due_status dues.BadLength = statuses.TooLong
due_status (dues.Answered a) = a.status

abbrev pub due_text : Due → List ℕ
due_text dues.BadWords = refused_words
due_text dues.BadLength = refused_length
due_text (dues.Answered a) = a.text

-- a text was written whole, with the status that is due, or a front of it where the sink failed
pub data Writes (due : Status) (text : List ℕ) (sink sink' : Told) : Status → Type 0 where
  all : Appends sink.bytes sink'.bytes text → sink.faults ≤ sink'.faults → Writes due text sink sink' due
  front : AppendsPrefix sink.bytes sink'.bytes text → sink.faults ≤ sink'.faults → Rose sink.faults sink'.faults
      → Writes due text sink sink' statuses.WriteFault
