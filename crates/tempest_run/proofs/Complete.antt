-- Where no end failed, valid words and a valid text are answered.
use Rattle.std.proofs.Common.{◌≡◌, ◌⊎◌, ℕ, List, Bool, true, false, Option, Some, Result, Ok, refl, subst, inl, inr}
use Rattle.std.specs.Io.KnownBytes.{Appends}
use Rattle.tw_io.specs.Causes.{Rose}
use Rattle.tw_io.specs.Told.{Told}
use Rattle.dsm_runs.specs.Setups.{Setup}
use Rattle.tempest_input.specs.declared.error.InputError.{InputError}
use Rattle.tempest_input.specs.declared.layout.Body.{Body}
use Rattle.tempest_words.specs.declared.request.Asked.{Asked}
use Rattle.tempest_run.specs.declared.answer.Answer.{Answer}
use Rattle.tempest_run.specs.declared.status.Status.{Status}
use Rattle.tempest_run.specs.declared.status.Status.TheVariants as statuses
use Rattle.tempest_run.specs.Answering.{Answers, AnswersAlone, AnswersIn, IsAnswer, IsAnswerIf, ending_of, options_of}
use Rattle.tempest_run.specs.Answering.{reads_input}
use Rattle.tempest_run.specs.CallLaws.{HasItsStatus, OthersAreAnswered, ValidTextsAreAnswered}
use Rattle.tempest_run.specs.Calls.{Ends, IsDue, answered, bad_length, bad_words, no_memory, read_fault, write_fault, wrote}
use Rattle.tempest_run.specs.Inputs.{input_of}
use Rattle.tempest_run.proofs.CallLaws.{input_is_answered}
use Rattle.tempest_run.proofs.HowEnded.{alone_is_done, has_its_status}

-- ---- a text

about :
    (q : Asked) (text : List ℕ) (s : Setup) (report : Body) (a : Answer) → reads_input q.command ≡ true →
    input_of (ending_of q.command) text ≡ Ok (s, report) →
    IsAnswer q text a → Answers q.command (options_of q) s report a
about q text s report a reads valid is =
    let read : AnswersIn q.command (options_of q) (input_of (ending_of q.command) text) a = subst
    (λ (b : Bool). IsAnswerIf b q.command (options_of q) text a) reads is in
    subst (λ (r : Result (Setup × Body) InputError). AnswersIn q.command (options_of q) r a) valid read

pub valid_texts_are_answered : ValidTextsAreAnswered
valid_texts_are_answered q source source2 sink sink2 result s report call in_well out_well reads tells =
    go (input_is_answered q source source2 sink sink2 result tells.text call in_well out_well reads tells.told tells.short)
  where
    go : (result ≡ statuses.Memory) ⊎ ((a : Answer) × IsAnswer q tells.text a ×
        (result ≡ a.status) × Appends sink.bytes sink2.bytes a.text)
        → (result ≡ statuses.Memory) ⊎ ((a : Answer) × Answers q.command (options_of q) s report a × HasItsStatus q.command
        (options_of q) s a × (result ≡ a.status) × Appends sink.bytes sink2.bytes a.text)
    go (inl e) = inl e
    go (inr x) =
        let is : Answers q.command (options_of q) s report x.0 = about q tells.text s report x.0 reads tells.valid x.1 in
        inr (x.0, is, has_its_status q.command (options_of q) s report x.0 is, x.2, x.3)

-- ---- no text

abbrev Alone : Asked → Told → Told → Status → Type 0
Alone q k h result = (a : Answer) × AnswersAlone q.command a × (result ≡ a.status) ×
    (result ≡ statuses.Done) × Appends k.bytes h.bytes a.text

alone-due :
    (q : Asked) (asked : Option Asked) (s t k h : Told) (got : List ℕ) (due : Status) (w : List ℕ) → asked ≡ Some q →
    reads_input q.command ≡ false → IsDue asked s t got due w → Appends k.bytes h.bytes w → Alone q k h due
alone-due q asked s t k h got _ _ e none (bad_words asks nothing kept) out = absurd (cc (asks, e))
alone-due q asked s t k h got _ _ e none (bad_length r f reads long) out =
    let same : r ≡ q = cc in
    let z : reads_input q.command ≡ true = subst (λ x. reads_input x.command ≡ true) same reads in
    absurd (cc (z, none))
alone-due q asked s t k h got _ _ e none (answered r a f input is) out =
    let same : r ≡ q = cc in
    let mine : IsAnswer q got a = subst (λ x. IsAnswer x got a) same is in
    let alone : AnswersAlone q.command a = subst (λ (b : Bool). IsAnswerIf b q.command (options_of q) got a) none mine in
    (a, alone, refl, alone_is_done q.command a alone, out)

alone-ends :
    (q : Asked) (asked : Option Asked) (s t k h : Told) (got : List ℕ) (result : Status) → asked ≡ Some q →
    reads_input q.command ≡ false
    → ¬ Rose s.faults t.faults → ¬ Rose k.faults h.faults → Ends asked s t k h got result →
    (result ≡ statuses.Memory) ⊎ Alone q k h result
alone-ends q asked s t k h got _ e none in_well out_well (wrote due w is out) = inr
    (alone-due q asked s t k h got due w e none is out)
alone-ends q asked s t k h got _ e none in_well out_well (write_fault due w is out rose) = absurd (out_well rose)
alone-ends q asked s t k h got _ e none in_well out_well (read_fault r f reads some rose kept) = absurd (in_well rose)
alone-ends q asked s t k h got _ e none in_well out_well (no_memory kept) = inl refl

pub others_are_answered : OthersAreAnswered
others_are_answered q source source2 sink sink2 result call in_well out_well none = alone-ends q
    (Some q) source source2 sink sink2 call.got result refl none in_well out_well call.ends
