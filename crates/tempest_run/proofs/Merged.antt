-- A run on threads, and what is told of it.
use Rattle.std.proofs.Common.{◌≡◌, ℕ, List, Option, sym, ap, subst, ◌∙◌}
use Rattle.tw_base.specs.declared.entry.Entry.{Entry}
use Rattle.dsm_runs.specs.Merges.{IsSorted}
use Rattle.dsm_runs.specs.Setups.{IsSetup, Setup}
use Rattle.dsm_runs.specs.Worlds.{World}
use Rattle.gathered_runs.specs.Runs.{IsToldRun}
use Rattle.stache_tree.specs.Tree.{IsStache}
use Rattle.journal.specs.declared.finals.Final.{Final}
use Rattle.journal.specs.declared.history.Break.{Break}
use Rattle.journal.specs.declared.reports.Options.{Options}
use Rattle.journal.specs.Finals.{counted_finals}
use Rattle.journal.specs.Gathered.{words_of}
use Rattle.journal.specs.History.{first_break}
use Rattle.journal.specs.Laws.{HistoryIsTold}
use Rattle.sample_runs.specs.Samples.{sample_setup}
use Rattle.sample_runs.specs.Summaries.{summary_under}
use Rattle.sample_sums.specs.OneSummary.{SampleHasOneSummary}
use Rattle.sound_runs.specs.Shipped.{as_stache}
use Rattle.sound_runs.proofs.Sound.{shipped_are_sound_to_their_end}
use Rattle.sound_runs.proofs.Stamps.{stamps_are_sound}
use Rattle.still_meaning.specs.Gathers.{GatheredShown}
use Rattle.tempest_run.specs.declared.answer.Answer.{Answer}
use Rattle.tempest_run.specs.declared.status.Status.TheVariants.{Done}
use Rattle.tempest_run.specs.Answering.{IsQuietRun, IsRun, TellsOfSample, TellsOfThreads, sample_answer, told_answer}
use Rattle.tempest_run.proofs.OneMemory.{one_memory}
use Rattle.tempest_run.proofs.Telling.{tale}
use Rattle.tempest_run.proofs.Uncounted.{summary_unseen}

-- ---- journals of runs

pub told_is_run : (s : Setup) (j k : List Entry) (r : GatheredShown) → k ≡ j → IsToldRun s j r → IsRun s k
told_is_run s j k r same told = subst (λ (es : List Entry). IsRun s es) (sym same) (told.state, told.run)

quiet_run : (s : Setup) (j : List Entry) (r : GatheredShown) → HistoryIsTold → IsSetup s → (told : IsToldRun s j r) →
    IsQuietRun s j told.state
quiet_run s j r history valid told =
    record {
      run = told.run;
      quiet = told.tells.quiet;
      stamps = stamps_are_sound s j told.state valid told.run;
      history = history s j told.state valid told.run;
    }

-- ---- a report

pub tells_of_threads :
    (s : Setup) (o : Options) (a : Answer) (j k : List Entry) (r : GatheredShown) (finals : List Final) (words : List ℕ) →
    HistoryIsTold → IsSetup s → IsSorted j → IsToldRun s j r → k ≡ j → finals ≡ r.finals → words ≡ r.words →
    a ≡ told_answer s k finals words o → TellsOfThreads s o a
tells_of_threads s o a j k r finals words history valid sorted told hj hf hw tells = record {
  journal = j;
  state = told.state;
  counts = told.counts;
  run = quiet_run s j r history valid told;
  sorted = sorted;
  one_memory = λ is. one_memory s j told.state valid is told.run told.tells.quiet;
  sound = λ is. shipped_are_sound_to_their_end s j told.state valid is told.run told.tells.quiet;
  counted = λ asked. told.counted;
  tells = tale s o j k told.state (λ i. (told.counts i).ops) (λ i. (told.counts i).records) finals words a hj
      (hf ∙ told.tells.finals)
      (hw ∙ told.tells.words) tells;
}

-- ---- a summary

abbrev done : List ℕ → Answer
done text = record { status = Done; text = text }

summarized :
    (k : ℕ) (j i : List Entry) (r : GatheredShown) (finals : List Final) (words : List ℕ) (broken : Option Break)
    (text : List ℕ) →
    (told : IsToldRun (sample_setup k) j r) → i ≡ j → finals ≡ r.finals → words ≡ r.words →
    broken ≡ first_break (sample_setup k) j →
    text ≡ summary_under (sample_setup k).protocol k i finals words broken → done text ≡ sample_answer k j told.state
summarized k j i r finals words broken text told hj hf hw hb ht =
    let s : Setup = sample_setup k in
    let g : World = told.state in
    let ops : ℕ → ℕ = λ n. (told.counts n).ops in
    let records : ℕ → ℕ = λ n. (told.counts n).records in
    ap (λ (x : List ℕ). done x) (ht
    ∙ ap (λ (x : List Entry). summary_under s.protocol k x finals words broken) hj
    ∙ ap (λ (x : List Final). summary_under s.protocol k j x words broken) (hf ∙ told.tells.finals)
    ∙ ap (λ (x : List ℕ). summary_under s.protocol k j (counted_finals s g ops records) x broken) (hw ∙ told.tells.words)
    ∙ ap (λ (x : Option Break). summary_under s.protocol k j (counted_finals s g ops records) (words_of s g) x) hb
    ∙ summary_unseen s.protocol k j s g ops records (words_of s g) (first_break s j))

pub tells_of_sample :
    (k : ℕ) (s : Setup) (j i : List Entry) (r : GatheredShown) (finals : List Final) (words : List ℕ) (broken : Option Break)
    (text : List ℕ) →
    HistoryIsTold → SampleHasOneSummary → s ≡ sample_setup k → IsSetup s → IsStache s.protocol → IsSorted j → IsToldRun s j r →
    i ≡ j → finals ≡ r.finals →
    words ≡ r.words → broken ≡ first_break s j → text ≡ summary_under s.protocol k i finals words broken →
    TellsOfSample k (record { status = Done; text = text })
tells_of_sample k s j i r finals words broken text history one e valid is sorted told hj hf hw hb ht =
    let sample : Setup = sample_setup k in
    let valid2 : IsSetup sample = subst (λ (t : Setup). IsSetup t) e valid in
    let is2 : IsStache sample.protocol = subst (λ (t : Setup). IsStache t.protocol) e is in
    let told2 : IsToldRun sample j r = subst (λ (t : Setup). IsToldRun t j r) e told in
    let hb2 : broken ≡ first_break sample j = hb ∙ ap (λ (t : Setup). first_break t j) e in
    let ht2 : text ≡ summary_under sample.protocol k i finals words broken =
    ht ∙ ap (λ (t : Setup). summary_under t.protocol k i finals words broken) e in
    let tale : done text ≡ sample_answer k j told2.state = summarized k j i r finals words broken text told2 hj hf hw hb2 ht2 in
    record {
      journal = j;
      state = told2.state;
      run = quiet_run sample j r history valid2 told2;
      sorted = sorted;
      one_memory = one_memory sample j told2.state valid2 (as_stache is2) told2.run told2.tells.quiet;
      sound = shipped_are_sound_to_their_end sample j told2.state valid2 (as_stache is2) told2.run told2.tells.quiet;
      tells = tale;
      one = tale ∙ ap (λ (x : List ℕ). done x) (one k j told2.state told2.run told2.tells.quiet);
    }
