-- How every run of a sample ends, and the one summary that it has.
use Rattle.std.specs.Prelude.{◌≡◌, ℕ, ◌+◌, ◌*◌, ◌<◌, ◌≤◌, codes, length, slice_index, List, [], ◌∷◌, ◌++◌, None}
use Rattle.std.specs.Fmt.{decimal}
use Rattle.tw_base.specs.declared.entry.Entry.{Entry}
use Rattle.dsm_runs.specs.declared.outcome.Outcome.TheVariants.{Halted}
use Rattle.dsm_runs.specs.Outcomes.{outcome_of}
use Rattle.dsm_runs.specs.Worlds.{IsQuiet, Runs, World, start}
use Rattle.printed_text.specs.Lines.{line}
use Rattle.journal.specs.Finals.{finals_of}
use Rattle.journal.specs.Gathered.{words_of}
use Rattle.journal.specs.History.{first_break}
use Rattle.sample_runs.specs.Samples.{increment_of, rounds_of, sample_setup}
use Rattle.sample_runs.specs.Summaries.{first_print, summary_text}

-- what node i prints, and what each of its words comes to: its increment, as often as there are rounds
abbrev pub result_of : ℕ → ℕ → ℕ
result_of k i = rounds_of k * increment_of k i

-- what all words come to: sixteen of each node
abbrev pub total_of : ℕ → ℕ
total_of k = 16 * rounds_of k * (increment_of k 0 + increment_of k 1 + increment_of k 2 + increment_of k 3)

-- the line of a node
abbrev pub halted_line : ℕ → ℕ → List ℕ
halted_line k i = line (codes "node" ∷ decimal i ∷ codes "halted print" ∷ decimal (result_of k i) ∷ [])

-- The one summary of sample k. With R rounds, and d_i for what node i adds to each of its words in a round, node i has halted
-- and printed R * d_i, and the sum is 16 * R * (d_0 + d_1 + d_2 + d_3).
unfoldable pub one_summary : ℕ → List ℕ
one_summary k =
    line (codes "tempest sample" ∷ decimal k ∷ codes "rounds" ∷ decimal (rounds_of k) ∷ [])
    ++ halted_line k 0 ++ halted_line k 1 ++ halted_line k 2 ++ halted_line k 3
    ++ line (codes "sum" ∷ decimal (total_of k) ∷ []) ++ codes "history agrees\n" ++ codes "end\n"

-- how a run of sample k ends, whichever it was
pub record IsDoneSample (k : ℕ) (j : List Entry) (g : World) : Type 0 where
  pub halted : (i : ℕ) → i < 4 → outcome_of (sample_setup k) (g.locals i) ≡ Halted
  pub printed : (i : ℕ) → i < 4 → first_print i j ≡ result_of k i
  pub size : length (words_of (sample_setup k) g) ≡ 64
  pub words : (i n : ℕ) → i < 4 → n < 16 → slice_index (words_of (sample_setup k) g) (i + 4 * n) ≡ result_of k i
  pub instructions : (i : ℕ) → i < 4 → (g.locals i).instructions ≤ 3689
  pub unbroken : first_break (sample_setup k) j ≡ None

abbrev pub SamplesEndAlike : Type 0
SamplesEndAlike =
    (k : ℕ) (j : List Entry) (g : World) → Runs (sample_setup k) (start (sample_setup k)) j g → IsQuiet (sample_setup k) g →
    IsDoneSample k j g

-- Every run of sample k that comes to rest has its one summary.
abbrev pub SampleHasOneSummary : Type 0
SampleHasOneSummary =
    (k : ℕ) (j : List Entry) (g : World) → Runs (sample_setup k) (start (sample_setup k)) j g → IsQuiet (sample_setup k) g →
    summary_text k j (finals_of (sample_setup k) g) (words_of (sample_setup k) g) (first_break (sample_setup k) j) ≡ one_summary k
