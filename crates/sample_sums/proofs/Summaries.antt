-- Every run of a sample that comes to rest ends alike, and has one summary.
use Rattle.std.proofs.Common.{◌≡◌, ℕ, zero, suc, ◌+◌, ◌*◌, ◌%◌, ◌<◌, ◌≤◌, inl, List, [], length, Some}
use Rattle.std.proofs.Common.{refl, sym, ap, subst, ◌∙◌, arith}
use Rattle.std.specs.Prelude.{slice_get, slice_index, unwrap_or}
use Rattle.std.proofs.Math.Nat.{mod-lt}
use Rattle.tw_base.specs.Shape.{IsWithinLimits}
use Rattle.tw_base.specs.declared.entry.Entry.{Entry}
use Rattle.tw_base.specs.declared.message.Chan.{Chan}
use Rattle.teapot_tree.specs.Rules.{IsAccepted}
use Rattle.dsm_runs.specs.Setups.{IsSetup, Setup, block_of}
use Rattle.dsm_runs.specs.Worlds.{World}
use Rattle.journal.specs.Finals.{final_of, finals_of}
use Rattle.journal.specs.Gathered.{words_of}
use Rattle.journal.proofs.Following.{followed_journals_have_no_break}
use Rattle.journal.proofs.Told.{read_words_are_told}
use Rattle.mini_asm.specs.Run.{Machine}
use Rattle.stache_tree.specs.Tree.{IsStache, stache}
use Rattle.stache_protocol.specs.Laws.{TextIsStache}
use Rattle.stache_rules.specs.Laws.{StacheIsAccepted}
use Rattle.coherence_inv.specs.Laws.{Explained, HasReader, IsKept}
use Rattle.coherence_inv.proofs.Done.{quiet_runs_are_done}
use Rattle.coherence_inv.proofs.Keeping.{runs_are_explained}
use Rattle.coherence_inv.proofs.Readers.{blocks_have_readers, copies_are_current}
use Rattle.coherence_inv.proofs.StepsSeen.{block_within}
use Rattle.sample_runs.specs.Samples.{increment_of, rounds_of, sample_setup, sample_shape, shipped_protocol}
use Rattle.sample_runs.specs.Summaries.{sum_of, summary_text}
use Rattle.sample_sums.specs.OneSummary.{IsDoneSample, SampleHasOneSummary, SamplesEndAlike, result_of, total_of}
use Rattle.sample_sums.proofs.Ending.{SampleEnds, sample_ends}
use Rattle.sample_sums.proofs.Nodes.{IsSample}
use Rattle.sample_sums.proofs.Spots.{program}
use Rattle.sample_sums.proofs.Sums.{sum_of_words}
use Rattle.sample_sums.proofs.Texts.{summary_is}

-- ---- the machine of a sample

few_rounds : (k : ℕ) → rounds_of k ≤ 32
few_rounds k = let lt : k % 13 < 13 = mod-lt k (omega arith) in omega arith

some_rounds : (k : ℕ) → 0 < rounds_of k
some_rounds k = omega arith

small_increment : (k i : ℕ) → increment_of k i ≤ 97
small_increment k i = let lt : (k * (2 * i + 1) + i) % 97 < 97 = mod-lt (k * (2 * i + 1) + i) (omega arith) in omega arith

program_is : (k i : ℕ) → i < 4 → slice_get (sample_setup k).programs i ≡ Some (program (rounds_of k) (increment_of k i) i)
program_is k zero li = refl
program_is k (suc zero) li = refl
program_is k (suc (suc zero)) li = refl
program_is k (suc (suc (suc zero))) li = refl
program_is k (suc (suc (suc (suc i)))) li = absurd (omega arith)

is_sample : (k : ℕ) → IsSample (sample_setup k) (rounds_of k) (increment_of k)
is_sample k = record {
  programs = program_is k;
  nodes = refl;
  size = refl;
  init = refl;
  budget = refl;
  small = λ i li. record { some = some_rounds k; rounds = few_rounds k; increment = small_increment k i; node = li };
}

within_limits : IsWithinLimits sample_shape
within_limits = record {
  some_node = omega arith;
  nodes = omega arith;
  some_word = omega arith;
  words = omega arith;
  some_block = omega arith;
  blocks = omega arith;
  some_budget = omega arith;
  budget = omega arith;
}

is_setup : (k : ℕ) → IsAccepted shipped_protocol → IsSetup (sample_setup k)
is_setup k accepted = record {
  limits = within_limits;
  init = tt;
  programs = refl;
  accepted = accepted;
  version = inl refl;
  plain = λ one. (refl, (refl, (refl, (refl, tt))));
}

shipped_is_stache : TextIsStache → IsStache shipped_protocol
unfolding shipped_protocol
shipped_is_stache text = subst IsStache (sym (ap (λ o. unwrap_or o stache) text.1)) text.3

-- ---- the words that are told

told_words : (s : Setup) (g : World) (m : Machine) → IsSetup s → IsKept s g m
    → ((f t : ℕ) (c : Chan) → f < s.shape.nodes → t < s.shape.nodes → g.wires f t c ≡ []) → words_of s g ≡ m.words
told_words s g m setup kept none = read_words_are_told s g m.words kept.tied.beside.size
    (λ address lt. (let it : HasReader s g (block_of s address) =
    blocks_have_readers s g m (block_of s address) setup kept none (block_within s address setup lt) in
    record { node = it.node; within = it.within; may = it.may }))
    (λ i address li lt may. copies_are_current s g m i address setup kept li lt may)

-- ---- the laws

pub samples_end_alike : TextIsStache → StacheIsAccepted → SamplesEndAlike
samples_end_alike text accepts k j g run quiet = record {
  halted = ends.halted;
  printed = ends.printed;
  size = ap length told ∙ ends.kept.tied.beside.size;
  words = λ i n li ln. ap (λ (ws : List ℕ). slice_index ws (i + 4 * n)) told ∙ ends.words i n li ln;
  instructions = λ i li. (let few : (g.locals i).instructions ≤ 115 * rounds_of k + 9 = ends.instructions i li in
      let rounds : rounds_of k ≤ 32 = few_rounds k in omega arith);
  unbroken = followed_journals_have_no_break s j explained.flat explained.follows;
}
  where
    s : Setup
    s = sample_setup k

    is : IsStache shipped_protocol
    is = shipped_is_stache text

    setup : IsSetup (sample_setup k)
    setup = is_setup k (accepts shipped_protocol is)

    ends : SampleEnds (sample_setup k) (rounds_of k) (increment_of k) j g
    ends = sample_ends (sample_setup k) (rounds_of k) (increment_of k) (is_sample k) setup is j g run quiet

    told : words_of (sample_setup k) g ≡ ends.machine.words
    told = told_words (sample_setup k) g ends.machine setup ends.kept
        (quiet_runs_are_done (sample_setup k) j g setup is run quiet).wires

    explained : Explained (sample_setup k) j g
    explained = runs_are_explained (sample_setup k) j g setup is run

pub done_sample_sum : (k : ℕ) (j : List Entry) (g : World) → IsDoneSample k j g
    → sum_of (words_of (sample_setup k) g) ≡ total_of k
done_sample_sum k j g done =
    sum_of_words (rounds_of k) (increment_of k 0) (increment_of k 1) (increment_of k 2) (increment_of k 3) (result_of k)
    (words_of (sample_setup k) g)
    (few_rounds k) (small_increment k 0) (small_increment k 1) (small_increment k 2)
    (small_increment k 3) refl refl refl refl done.size done.words

pub sample_has_one_summary : TextIsStache → StacheIsAccepted → SampleHasOneSummary
sample_has_one_summary text accepts k j g run quiet =
    let done : IsDoneSample k j g = samples_end_alike text accepts k j g run quiet in
    ap (λ broken. summary_text k j (finals_of (sample_setup k) g) (words_of (sample_setup k) g) broken) done.unbroken
    ∙ summary_is shipped_protocol k j (final_of (sample_setup k) (g.locals 0)) (final_of (sample_setup k) (g.locals 1))
    (final_of (sample_setup k) (g.locals 2)) (final_of (sample_setup k) (g.locals 3))
    (words_of (sample_setup k) g) (done.halted 0 (omega arith)) (done.halted 1 (omega arith)) (done.halted 2 (omega arith))
    (done.halted 3 (omega arith))
    (done.printed 0 (omega arith)) (done.printed 1 (omega arith)) (done.printed 2 (omega arith)) (done.printed 3 (omega arith))
    (done_sample_sum k j g done)
