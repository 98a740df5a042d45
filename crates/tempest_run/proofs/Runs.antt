-- A serial run, on nodes with compiled handlers or on the model, and what is told of it.
use Rattle.std.proofs.Common.{◌≡◌, ℕ, ◌+◌, ◌*◌, ◌<◌, ◌≤◌, ◌^◌, true, List, [], ◌++◌, length, sym, ap, subst, ◌∙◌}
use Rattle.tw_base.specs.Shape.{IsWithinLimits, handler_budget_of}
use Rattle.tw_base.specs.declared.entry.Entry.{Entry}
use Rattle.compiled_meaning.specs.Whole.{IsCode}
use Rattle.dsm_runs.specs.Beside.{RunsBeside}
use Rattle.dsm_runs.specs.Schedules.{Settles}
use Rattle.dsm_runs.specs.Setups.{IsSetup, Setup}
use Rattle.dsm_runs.specs.Worlds.{IsQuiet, Runs, World, start}
use Rattle.journal.specs.declared.finals.Final.{Final}
use Rattle.journal.specs.declared.reports.Options.{Options}
use Rattle.journal.specs.Finals.{counted_finals, told_finals}
use Rattle.journal.specs.Gathered.{told_words, words_of}
use Rattle.journal.specs.Laws.{HistoryIsTold}
use Rattle.journal.proofs.Standing.{told_finals_are, told_words_are}
use Rattle.node_meaning.specs.Tallies.{Counts, Tally, first_tally}
use Rattle.counted_runs.specs.Counted.{HasCounts}
use Rattle.still_meaning.specs.Laws.{WhatIsReadIsTheStates}
use Rattle.still_meaning.specs.Reading.{end_at, tag_at, word_at}
use Rattle.still_meaning.specs.Stills.{IsStill, StillShown, tallies}
use Rattle.still_nodes.specs.Driving.{HasSettled}
use Rattle.sound_runs.proofs.Sound.{shipped_are_sound_to_their_end}
use Rattle.sound_runs.proofs.Stamps.{stamps_are_sound}
use Rattle.tempest_run.specs.declared.answer.Answer.{Answer}
use Rattle.tempest_run.specs.Answering.{IsRun, TellsOfRun, report_answer, told_answer}
use Rattle.tempest_run.proofs.OneMemory.{one_memory}
use Rattle.tempest_run.proofs.Telling.{short, tale}

-- ---- journals of runs

abbrev pub RunsAreShort : Type 0
RunsAreShort =
    (s : Setup) (j : List Entry) (g : World) → Runs s (start s) j g →
    length j ≤ s.shape.nodes * (s.shape.budget + handler_budget_of s.shape)

pub run_is_short : (s : Setup) (j : List Entry) → RunsAreShort → IsSetup s → IsRun s j → length j < 2 ^ 32
run_is_short s j few valid run = short s.shape j valid.limits (few s j run.0 run.1)

-- ---- schedules

-- a schedule makes a run, which ends quiet
abbrev pub SchedulesRun : Type 0
SchedulesRun = (s : Setup) (stride t : ℕ) (g : World) (j : List Entry) (h : World) → Settles s stride t g j h → Runs s g j h

abbrev pub SchedulesEndQuiet : Type 0
SchedulesEndQuiet = (s : Setup) (stride t : ℕ) (g : World) (j : List Entry) (h : World) → Settles s stride t g j h → IsQuiet s h

pub is_run :
    (s : Setup) (stride : ℕ) (j k : List Entry) (g : World) → SchedulesRun → k ≡ j → Settles s stride 0 (start s) j g → IsRun s k
is_run s stride j k g runs same settles =
    subst (λ (es : List Entry). IsRun s es) (sym same) (g, runs s stride 0 (start s) j g settles)

pub tells_of_run :
    (s : Setup) (stride : ℕ) (o : Options) (a : Answer) (j : List Entry) (g : World) (counts : ℕ → Tally) →
    SchedulesRun → SchedulesEndQuiet → HistoryIsTold → IsSetup s → Settles s stride 0 (start s) j g →
    (o.counts ≡ true → HasCounts s j g counts) → a ≡ report_answer s j g (λ i. (counts i).ops) (λ i. (counts i).records) o →
    TellsOfRun s stride o a
tells_of_run s stride o a j g counts runs ends told valid settles counted tells =
    let run : Runs s (start s) j g = runs s stride 0 (start s) j g settles in
    let quiet : IsQuiet s g = ends s stride 0 (start s) j g settles in
    record {
      journal = j;
      state = g;
      counts = counts;
      run = record {
        schedule = settles;
        quiet_run = record {
          run = run;
          quiet = quiet;
          stamps = stamps_are_sound s j g valid run;
          history = told s j g valid run;
        };
      };
      one_memory = λ is. one_memory s j g valid is run quiet;
      sound = λ is. shipped_are_sound_to_their_end s j g valid is run quiet;
      counted = counted;
      tells = tells;
    }

-- ---- nodes with compiled handlers

-- the state that nodes have settled in, and their counts
pub record Settled (s : Setup) (stride : ℕ) (new : StillShown) : Type 0 where
  pub state : World
  pub same_setup : new.setup ≡ s
  pub schedule : Settles s stride 0 (start s) new.taken state
  pub still : IsStill new state
  pub counts : HasCounts s new.taken state (tallies new)

pub nodes_settled :
    (s : Setup) (stride : ℕ) (old new : StillShown) →
    old.setup ≡ s → old.taken ≡ [] → IsStill old (start s) → tallies old ≡ first_tally s → IsCode s.protocol old.code →
    HasSettled old new stride → Settled s stride new
nodes_settled s stride old new same none still first is_code settled =
    let end = settled.goes.ran (start s) still in
    let g : World = end.0 in
    let taken : new.taken ≡ settled.entries = settled.goes.taken ∙ ap (λ (es : List Entry). es ++ settled.entries) none in
    let here : Settles old.setup stride 0 (start s) new.taken g =
    subst (λ (es : List Entry). Settles old.setup stride 0 (start s) es g) (sym taken) end.1 in
    let beside : RunsBeside (Counts old.setup old.code) old.setup (start s) (tallies old) new.taken g (tallies new) =
    subst (λ (es : List Entry). RunsBeside (Counts old.setup old.code) old.setup (start s) (tallies old) es g (tallies new))
    (sym taken) end.3 in
    let from : RunsBeside (Counts old.setup old.code) old.setup (start s) (first_tally s) new.taken g (tallies new) =
    subst (λ (ts : ℕ → Tally). RunsBeside (Counts old.setup old.code) old.setup (start s) ts new.taken g (tallies new))
    first beside in
    record {
      state = g;
      same_setup = settled.goes.same_setup ∙ same;
      schedule = subst (λ (t : Setup). Settles t stride 0 (start s) new.taken g) same here;
      still = end.2;
      counts = record {
        code = old.code;
        is_code = is_code;
        beside =
            subst (λ (t : Setup). RunsBeside (Counts t old.code) t (start s) (first_tally s) new.taken g (tallies new)) same from;
      };
    }

-- what is read of nodes is read of the state that they are
pub nodes_tale :
    (s : Setup) (o : Options) (new : StillShown) (g : World) (j : List Entry) (finals : List Final) (words : List ℕ)
    (a : Answer) → WhatIsReadIsTheStates → IsSetup s → new.setup ≡ s → IsStill new g → j ≡ new.taken →
    finals ≡ told_finals new.setup.shape.nodes (end_at new) → words ≡ told_words new.setup.shape (tag_at new) (word_at new) →
    a ≡ told_answer s j finals words o →
    a ≡ report_answer s new.taken g (λ i. (tallies new i).ops) (λ i. (tallies new i).records) o
nodes_tale s o new g j finals words a read valid same still hj hf hw ha =
    let ops : ℕ → ℕ = λ i. (tallies new i).ops in
    let records : ℕ → ℕ = λ i. (tallies new i).records in
    let shape = new.setup.shape in
    let limits : IsWithinLimits shape = subst (λ (t : Setup). IsWithinLimits t.shape) (sym same) valid.limits in
    let stands = read new g still limits in
    let ends : finals ≡ counted_finals s g ops records =
    hf ∙ told_finals_are new.setup g ops records shape (tag_at new) (word_at new) (end_at new) stands
    ∙ ap (λ (t : Setup). counted_finals t g ops records) same in
    let left : words ≡ words_of s g =
    hw ∙ told_words_are new.setup g ops records shape (tag_at new) (word_at new) (end_at new) limits stands
    ∙ ap (λ (t : Setup). words_of t g) same in
    tale s o new.taken j g ops records finals words a hj ends left ha
