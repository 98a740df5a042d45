-- What follows from the record of a call.
use Rattle.std.proofs.Common.{◌≡◌, ◌⊎◌, ℕ, ◌<◌, ◌≤◌, List, ◌++◌, Bool, true, false, length, Option, Some, None, refl, sym, ap}
use Rattle.std.proofs.Common.{subst, inl, inr, arith, length-append, append-nil, ◌∙◌}
use Rattle.std.specs.Io.KnownBytes.{Appends, Consumes, IsAtEnd}
use Rattle.tw_io.specs.Causes.{Rose}
use Rattle.tw_io.specs.Told.{Told}
use Rattle.tempest_words.specs.declared.request.Asked.{Asked}
use Rattle.tempest_run.specs.declared.answer.Answer.{Answer}
use Rattle.tempest_run.specs.declared.status.Status.{Status}
use Rattle.tempest_run.specs.declared.status.Status.TheVariants as statuses
use Rattle.tempest_run.specs.Answering.{IsAnswer, IsAnswered, reads_input}
use Rattle.tempest_run.specs.CallLaws.{InputIsAnswered, IsAnsweredWith, LengthIsRefused, Says, StatusesSay, WordsAreRefused}
use Rattle.tempest_run.specs.Calls.{Ends, IsDue, IsInput, answered, bad_length, bad_words, most_input, no_memory, read_fault}
use Rattle.tempest_run.specs.Calls.{write_fault, wrote}

-- a text is answered with one of four statuses
abbrev pub AnswersAnswer : Type 0
AnswersAnswer = (q : Asked) (text : List ℕ) (a : Answer) → IsAnswer q text a → IsAnswered a.status

-- ---- what each status says

with-answer : (asked : Option Asked) (s t k h : Told) (got : List ℕ) (status : Status) → IsAnswered status →
    IsAnsweredWith asked s t k h got status → Says asked s t k h got status
with-answer asked s t k h got statuses.Done is all = all
with-answer asked s t k h got statuses.Refused is all = all
with-answer asked s t k h got statuses.Denied is all = all
with-answer asked s t k h got statuses.Unfinished is all = all
with-answer asked s t k h got statuses.Memory is all = absurd is
with-answer asked s t k h got statuses.Usage is all = absurd is
with-answer asked s t k h got statuses.ReadFault is all = absurd is
with-answer asked s t k h got statuses.WriteFault is all = absurd is
with-answer asked s t k h got statuses.TooLong is all = absurd is

due-says : AnswersAnswer → (asked : Option Asked) (s t k h : Told) (got : List ℕ) (due : Status) (text : List ℕ) →
    IsDue asked s t got due text → Appends k.bytes h.bytes text → Says asked s t k h got due
due-says answers asked s t k h got _ _ (bad_words none nothing kept) w = (none, nothing, kept, w)
due-says answers asked s t k h got _ _ (bad_length q e reads long) w = (long, w)
due-says answers asked s t k h got _ _ (answered q a e input is) w =
    with-answer asked s t k h got a.status (answers q got a is) (q, a, e, input, is, refl, w)

ends-say : AnswersAnswer → (asked : Option Asked) (s t k h : Told) (got : List ℕ) (result : Status) →
    Ends asked s t k h got result → Says asked s t k h got result
ends-say answers asked s t k h got _ (wrote due text is w) = due-says answers asked s t k h got due text is w
ends-say answers asked s t k h got _ (write_fault due text is w rose) = (rose, (due, text, is, w))
ends-say answers asked s t k h got _ (read_fault q e reads few rose kept) = (few, rose, kept)
ends-say answers asked s t k h got _ (no_memory kept) = kept

pub statuses_say : AnswersAnswer → StatusesSay
statuses_say answers asked s t k h result call = ends-say answers asked s t k h call.got result call.ends

-- ---- where no end failed

none-due : (asked : Option Asked) (s t : Told) (got : List ℕ) (due : Status) (text : List ℕ) → asked ≡ None →
    IsDue asked s t got due text → due ≡ statuses.Usage
none-due asked s t got _ _ none (bad_words e nothing kept) = refl
none-due asked s t got _ _ none (bad_length q e reads long) = absurd (cc (none, e))
none-due asked s t got _ _ none (answered q a e input is) = absurd (cc (none, e))

none-ends : (asked : Option Asked) (s t k h : Told) (got : List ℕ) (result : Status) → asked ≡ None →
    ¬ Rose k.faults h.faults → Ends asked s t k h got result → (result ≡ statuses.Memory) ⊎ (result ≡ statuses.Usage)
none-ends asked s t k h got _ none well (wrote due text is w) = inr (none-due asked s t got due text none is)
none-ends asked s t k h got _ none well (write_fault due text is w rose) = absurd (well rose)
none-ends asked s t k h got _ none well (read_fault q e reads few rose kept) = absurd (cc (none, e))
none-ends asked s t k h got _ none well (no_memory kept) = inl refl

pub words_are_refused : WordsAreRefused
words_are_refused s t k h result call well = none-ends None s t k h call.got result refl well call.ends

no-more : (b : Bool) (s t : Told) (got : List ℕ) → IsInput b s t got → length got ≤ most_input
no-more true s t got input = input.0
no-more false s t got input = let e = ap (λ xs. length xs) input.0 in omega (arith, e)

long-due : (asked : Option Asked) (s t : Told) (got : List ℕ) (due : Status) (text : List ℕ) → most_input < length got →
    IsDue asked s t got due text → due ≡ statuses.TooLong
long-due asked s t got _ _ long (bad_words e nothing kept) = let z =
    ap (λ xs. length xs) nothing in absurd (omega (arith, z, long))
long-due asked s t got _ _ long (bad_length q e reads more) = refl
long-due asked s t got _ _ long (answered q a e input is) = let z =
    no-more (reads_input q.command) s t got input in absurd (omega (arith, z, long))

long-ends : (asked : Option Asked) (s t k h : Told) (got : List ℕ) (result : Status) → most_input < length got →
    ¬ Rose k.faults h.faults → Ends asked s t k h got result → (result ≡ statuses.Memory) ⊎ (result ≡ statuses.TooLong)
long-ends asked s t k h got _ long well (wrote due text is w) = inr (long-due asked s t got due text long is)
long-ends asked s t k h got _ long well (write_fault due text is w rose) = absurd (well rose)
long-ends asked s t k h got _ long well (read_fault q e reads few rose kept) = absurd (omega (arith, few, long))
long-ends asked s t k h got _ long well (no_memory kept) = inl refl

pub length_is_refused : LengthIsRefused
length_is_refused asked s t k h result call long well = long-ends asked s t k h call.got result long well call.ends

-- all of a text was got
front-of : (text got : List ℕ) (after : Option (List ℕ)) → Consumes (Some text) after got → length got ≤ length text
front-of text got None gone = absurd gone
front-of text got (Some rest) gone = let e = ap (λ xs. length xs) gone in omega (arith, e, length-append got rest)

whole : (text got : List ℕ) (after : Option (List ℕ)) → Consumes (Some text) after got → IsAtEnd after → got ≡ text
whole text got None gone end = absurd gone
whole text got (Some rest) gone end = sym (gone ∙ (ap (λ xs. got ++ xs) end ∙ append-nil got))

abbrev Answered : Asked → Told → Told → List ℕ → Status → Type 0
Answered q k h text result = (a : Answer) × IsAnswer q text a × (result ≡ a.status) × Appends k.bytes h.bytes a.text

due-answers : (q : Asked) (asked : Option Asked) (s t k h : Told) (text got : List ℕ) (due : Status) (w : List ℕ) →
    asked ≡ Some q → reads_input q.command ≡ true
    → Consumes (Some text) t.bytes got → length text ≤ most_input → IsDue asked s t got due w → Appends k.bytes h.bytes w →
    Answered q k h text due
due-answers q asked s t k h text got _ _ e reads gone few (bad_words none nothing kept) out = absurd (cc (none, e))
due-answers q asked s t k h text got _ _ e reads gone few (bad_length r f input long) out = let z =
    front-of text got t.bytes gone in absurd (omega (arith, z, few, long))
due-answers q asked s t k h text got _ _ e reads gone few (answered r a f input is) out =
    let same : r ≡ q = cc in
    let mine : IsInput (reads_input q.command) s t got = subst (λ x. IsInput (reads_input x.command) s t got) same input in
    let read : IsInput true s t got = subst (λ b. IsInput b s t got) reads mine in
    let all : got ≡ text = whole text got t.bytes gone read.1 in
    (a, subst (λ x. IsAnswer q x a) all (subst (λ x. IsAnswer x got a) same is), refl, out)

ends-answer : (q : Asked) (asked : Option Asked) (s t k h : Told) (text got : List ℕ) (result : Status) → asked ≡ Some q →
    reads_input q.command ≡ true
    → Consumes (Some text) t.bytes got → length text ≤ most_input → ¬ Rose s.faults t.faults → ¬ Rose k.faults h.faults →
    Ends asked s t k h got result
    → (result ≡ statuses.Memory) ⊎ Answered q k h text result
ends-answer q asked s t k h text got _ e reads gone few in_well out_well (wrote due w is out) =
    inr (due-answers q asked s t k h text got due w e reads gone few is out)
ends-answer q asked s t k h text got _ e reads gone few in_well out_well (write_fault due w is out rose) = absurd (out_well rose)
ends-answer q asked s t k h text got _ e reads gone few in_well out_well (read_fault r f input some rose kept) =
    absurd (in_well rose)
ends-answer q asked s t k h text got _ e reads gone few in_well out_well (no_memory kept) = inl refl

pub input_is_answered : InputIsAnswered
input_is_answered q s t k h result text call in_well out_well reads is few =
    ends-answer q (Some q) s t k h text call.got result refl reads
    (subst (λ x. Consumes x t.bytes call.got) is call.gone) few in_well out_well call.ends
