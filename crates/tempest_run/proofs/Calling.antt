-- The parts of a call make the call.
use Rattle.std.proofs.Common.{◌≡◌, ℕ, ◌≤◌, List, [], Option, Some, None, Ok, Err, refl, sym, subst, arith}
use Rattle.std.specs.Io.KnownBytes.{Appends, Consumes}
use Rattle.tw_io.specs.Causes.{Rose}
use Rattle.tw_io.specs.Reading.{AppendsPrefix}
use Rattle.tw_io.specs.Told.{Told}
use Rattle.tempest_words.specs.declared.request.Asked.{Asked}
use Rattle.tempest_run.specs.declared.due.Due.{Due}
use Rattle.tempest_run.specs.declared.due.Due.TheVariants.{Answered, BadLength, BadWords}
use Rattle.tempest_run.specs.declared.given.Given.{Given}
use Rattle.tempest_run.specs.declared.given.Given.TheVariants.{NoCommand, Text, TooLong}
use Rattle.tempest_run.specs.declared.given.Stopped.TheVariants.{Memory, ReadFault}
use Rattle.tempest_run.specs.declared.status.Status.{Status}
use Rattle.tempest_run.specs.declared.status.Status.TheVariants as statuses
use Rattle.tempest_run.specs.Answering.{IsAnswer}
use Rattle.tempest_run.specs.Calls.{Ends, Gives, IsDue, IsDueFor, IsGiven, IsText, TopCall, Writes, all, answered, bad_length}
use Rattle.tempest_run.specs.Calls.{bad_words, due_status, due_text, front, no_memory, read_fault, write_fault, wrote}

same : (n : ℕ) → n ≤ n
same n = omega arith

-- ---- what is written

pub wrote_all : (due status : Status) (text bytes : List ℕ) (k h : Told) → status ≡ due → bytes ≡ text →
    Appends k.bytes h.bytes bytes → k.faults ≤ h.faults → Writes due text k h status
wrote_all due status text bytes k h e f appends later =
    subst (λ s. Writes due text k h s) (sym e) (all (subst (λ t. Appends k.bytes h.bytes t) f appends) later)

pub wrote_front : (due : Status) (text bytes : List ℕ) (k h : Told) → bytes ≡ text → AppendsPrefix k.bytes h.bytes bytes →
    k.faults ≤ h.faults → Rose k.faults h.faults → Writes due text k h statuses.WriteFault
wrote_front due text bytes k h f appends later rose = front (subst (λ t. AppendsPrefix k.bytes h.bytes t) f appends) later rose

-- ---- the whole call

pub read_stopped : (asked : Option Asked) (s t k : Told) → Gives asked s t (Err ReadFault) →
    TopCall asked s t k k statuses.ReadFault
read_stopped asked s t k g = record {
  got = g.got;
  gone = g.gone;
  reads = g.reads;
  writes = same k.faults;
  ends = read_fault g.given.0 g.given.1 g.given.2 g.given.3 g.given.4 refl;
}

-- the same call, of what is asked for
pub call_along :
    (p q : Option Asked) (s t k h : Told) (result : Status) → p ≡ q → TopCall p s t k h result → TopCall q s t k h result
call_along p q s t k h result e call = subst (λ (x : Option Asked). TopCall x s t k h result) e call

-- nothing was read
none_read : (bytes : Option (List ℕ)) → Consumes bytes bytes []
none_read None = tt
none_read (Some xs) = refl

-- memory ran out while the words were read
pub words_starved : (asked : Option Asked) (s k : Told) → TopCall asked s s k k statuses.Memory
words_starved asked s k = record {
  got = [];
  gone = none_read s.bytes;
  reads = same s.faults;
  writes = same k.faults;
  ends = no_memory refl;
}

pub read_starved : (asked : Option Asked) (s t k : Told) → Gives asked s t (Err Memory) → TopCall asked s t k k statuses.Memory
read_starved asked s t k g = record {
  got = g.got;
  gone = g.gone;
  reads = g.reads;
  writes = same k.faults;
  ends = no_memory refl;
}

pub answer_starved : (asked : Option Asked) (s t k : Told) (given : Given) → Gives asked s t (Ok given) → IsText given →
    TopCall asked s t k k statuses.Memory
answer_starved asked s t k NoCommand g is = absurd is
answer_starved asked s t k TooLong g is = absurd is
answer_starved asked s t k (Text q text) g is = record {
  got = g.got;
  gone = g.gone;
  reads = g.reads;
  writes = same k.faults;
  ends = no_memory refl;
}

along : (asked : Option Asked) (s t : Told) (got : List ℕ) (d e : Due) → d ≡ e →
    IsDue asked s t got (due_status e) (due_text e) → IsDue asked s t got (due_status d) (due_text d)
along asked s t got d e h is = subst (λ x. IsDue asked s t got (due_status x) (due_text x)) (sym h) is

due-is : (asked : Option Asked) (s t : Told) (got : List ℕ) (given : Given) (d : Due) → IsGiven asked s t got (Ok given) →
    IsDueFor given d → IsDue asked s t got (due_status d) (due_text d)
due-is asked s t got NoCommand d g e = along asked s t got d BadWords e (bad_words g.0 g.1 g.2)
due-is asked s t got TooLong d g e = along asked s t got d BadLength e (bad_length g.0 g.1 g.2 g.3)
due-is asked s t got (Text q text) d g e =
    along asked s t got d (Answered e.0) e.1 (answered q e.0 g.0 g.2 (subst (λ x. IsAnswer q x e.0) g.1 e.2))

wrote-is : (asked : Option Asked) (s t k h : Told) (got : List ℕ) (due : Status) (text : List ℕ) (result : Status) →
    IsDue asked s t got due text → Writes due text k h result → Ends asked s t k h got result
wrote-is asked s t k h got due text _ is (all appends later) = wrote due text is appends
wrote-is asked s t k h got due text _ is (front appends later rose) = write_fault due text is appends rose

later-is : (due : Status) (text : List ℕ) (k h : Told) (result : Status) → Writes due text k h result → k.faults ≤ h.faults
later-is due text k h _ (all appends later) = later
later-is due text k h _ (front appends later rose) = later

pub written : (asked : Option Asked) (s t k h : Told) (given : Given) (d : Due) (result : Status) →
    Gives asked s t (Ok given) → IsDueFor given d → Writes (due_status d) (due_text d) k h result → TopCall asked s t k h result
written asked s t k h given d result g e w = record {
  got = g.got;
  gone = g.gone;
  reads = g.reads;
  writes = later-is (due_status d) (due_text d) k h result w;
  ends = wrote-is asked s t k h g.got (due_status d) (due_text d) result (due-is asked s t g.got given d g.given e) w;
}
