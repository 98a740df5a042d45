-- The nodes at the start of their programs are the state at the start of a run.
use Rattle.std.proofs.Common.{◌≡◌, ◌∙◌, ℕ, List, [], ◌∷◌, ◌++◌, Option, Some, None, length, refl, ap, sym, subst, replicate}
use Rattle.std.specs.Prelude.{option_to_list, slice_get}
use Rattle.std.specs.List.{slice_index_or}
use Rattle.std.proofs.lemmas.List.{length-replicate}
use Rattle.tw_base.specs.Lists.{Each}
use Rattle.tw_base.specs.declared.message.Chan.{Chan}
use Rattle.tw_base.specs.declared.message.Message.{Message}
use Rattle.dsm_runs.specs.Messages.{place}
use Rattle.dsm_runs.specs.Replays.{Course, begin}
use Rattle.dsm_runs.specs.Setups.{IsSetup, Setup}
use Rattle.dsm_runs.specs.Worlds.{start}
use Rattle.handler_code.specs.declared.code.Code.{Code}
use Rattle.node_meaning.specs.Nodes.{Shown, onto, tally_of}
use Rattle.node_meaning.specs.Tallies.{Counts, Tally, first_tally}
use Rattle.dsm_runs.specs.Beside.{Moves, ReplaysBeside}
use Rattle.tw_base.specs.declared.entry.Entry.{Entry}
use Rattle.still_meaning.specs.Stills.{IsStill, AreWhole, flight, front_of, row_at, tallies, tally_in, unpushed}
use Rattle.still_nodes.proofs.Lists.{each_replicate, index_replicate, push_each}
use Rattle.still_nodes.specs.Parts.{all_of}
use Rattle.still_nodes.specs.Beginning.{AreFirst, IsFirst}

-- ---- rows in which nothing follows

empty_queue : (rows : List (List (List Message))) (n f t : ℕ) (c : Chan) → rows ≡ replicate n (replicate 16 []) →
    slice_index_or (slice_index_or rows f []) (place t c) [] ≡ []
empty_queue rows n f t c is =
    let IsEmpty : List Message → Type 0 = λ ms. ms ≡ [] in
    let AllEmpty : List (List Message) → Type 0 = λ r. slice_index_or r (place t c) [] ≡ [] in
    ap (λ (rs : List (List (List Message))). slice_index_or (slice_index_or rs f []) (place t c) []) is
    ∙ index_replicate n f (replicate 16 []) [] AllEmpty (index_replicate 16 (place t c) [] [] IsEmpty refl refl) refl

pub empty_places : (rows : List (List (List Message))) (n : ℕ) → rows ≡ replicate n (replicate 16 []) →
    Each (λ row. length row ≡ 16) rows
empty_places rows n is =
    let Has16 : List (List Message) → Type 0 = λ row. length row ≡ 16 in
    let none : List Message = [] in
    subst (λ (rs : List (List (List Message))). Each Has16 rs) (sym is)
    (each_replicate Has16 n (replicate 16 none) (length-replicate 16 none))

pub empty_count : (rows : List (List (List Message))) (n : ℕ) → rows ≡ replicate n (replicate 16 []) → length rows ≡ n
empty_count rows n is = ap (λ (rs : List (List (List Message))). length rs) is ∙ length-replicate n (replicate 16 [])

-- ---- one node more

pub first_push : (s : Setup) (code : Code) (ns more : List Shown) (n : Shown) (k : ℕ) → AreFirst s code ns → length ns ≡ k →
    IsFirst s code k n → more ≡ ns ++ n ∷ [] → AreFirst s code more
first_push s code ns more n k before count now is =
    subst (λ (xs : List Shown). AreFirst s code xs) (sym is)
    (push_each (λ i x. IsFirst s code i x) ns n before (subst (λ i. IsFirst s code i n) (sym count) now))

-- ---- all of them

empty_log : (M : Moves Tally) (s : Setup) (i : ℕ) (a b : Course) (x y : Tally) (log : List Entry) → log ≡ [] →
    ReplaysBeside M s i a x log b y → x ≡ y
empty_log M s i a b x y [] e r = r.1
empty_log M s i a b x y (z ∷ log) e r = absurd cc

module _ (s : Setup) (code : Code) (ns : List Shown) (rows : List (List (List Message))) (taken : List Entry)
    (count : length ns ≡ s.shape.nodes) (firsts : AreFirst s code ns) (none : rows ≡ replicate s.shape.nodes (replicate 16 []))
  where
    front_none : (o : Option Shown) (t f : ℕ) (c : Chan) → slice_get ns t ≡ o → front_of o f c ≡ []
    front_none None t f c h = refl
    front_none (Some n) t f c h = ap (λ (m : Option Message). option_to_list m) ((firsts t n h).fronts f c)

    wait_none : (o : Option Shown) (f t : ℕ) (c : Chan) → slice_get ns f ≡ o → unpushed o f t c ≡ []
    wait_none None f t c h = refl
    wait_none (Some n) f t c h = ap (λ (ms : List Message). onto f t c ms) (firsts f n h).waiting

    flight_none : (f t : ℕ) (c : Chan) → flight (all_of s code ns rows taken) f t c ≡ []
    flight_none f t c =
        let row : List Message = row_at (all_of s code ns rows taken) f t c in
        let wait : List Message = unpushed (slice_get ns f) f t c in
        ap (λ (ms : List Message). ms ++ (row ++ wait)) (front_none (slice_get ns t) t f c refl)
        ∙ ap (λ (ms : List Message). ms ++ wait) (empty_queue rows s.shape.nodes f t c none)
        ∙ wait_none (slice_get ns f) f t c refl

    pub starts : IsStill (all_of s code ns rows taken) (start s)
    starts = record {
      count = count;
      ends = begin s;
      nodes = λ i n there. (let x = firsts i n there in
          record { setup = x.setup; code = x.code_is; me = x.me; stands = x.stands });
      agrees = λ f t c lf lt. sym (flight_none f t c);
      joined = record { locals = λ i l. refl; wires = λ f t c lf lt. sym (flight_none f t c); next = λ f t c lf lt. refl };
    }

    pub starts_whole : IsSetup s → AreWhole (all_of s code ns rows taken)
    starts_whole valid = record {
      setup = valid;
      rows = empty_count rows s.shape.nodes none;
      places = empty_places rows s.shape.nodes none;
      state = start s;
      still = starts;
    }

    tally_there : (i : ℕ) (o : Option Shown) → slice_get ns i ≡ o → tally_in s i o ≡ first_tally s i
    tally_there i None h = refl
    tally_there i (Some n) h =
        let x = firsts i n h in
        sym (empty_log (Counts n.setup n.code) n.setup n.me (begin n.setup n.me) (begin s i) (first_tally n.setup n.me)
        (tally_of n) n.log x.log x.stands.replays)
        ∙ ap (λ (z : Setup). first_tally z n.me) x.setup ∙ ap (λ k. first_tally s k) x.me

    pub starts_tallies : tallies (all_of s code ns rows taken) ≡ first_tally s
    starts_tallies = λ j i. tally_there i (slice_get ns i) refl j
