-- Where a node of a sample is, and what an event makes of that.
use Rattle.std.proofs.Common.{◌≡◌, ◌≢◌, ℕ, zero, suc, ◌+◌, ◌*◌, ◌<◌, ◌≤◌, if◌then◌else◌, List, [], ◌∷◌}
use Rattle.std.proofs.Common.{length, set, Option, Some, None, refl, sym, ap, subst, ◌∙◌, arith}
use Rattle.std.specs.Prelude.{slice_get, slice_index, slice_set}
use Rattle.std.proofs.lemmas.Option.{slice_get_within}
use Rattle.tw_base.specs.declared.entry.Act.{Act}
use Rattle.mini_asm.specs.Run.{Machine, Ran, is_running_mode, run_one}
use Rattle.mini_asm.specs.declared.instr.Instr.{Instr}
use Rattle.mini_asm.specs.declared.processor.Core.{Core}
use Rattle.mini_asm.specs.declared.processor.FlatMode.{FlatMode}
use Rattle.mini_asm.specs.declared.processor.FlatMode.TheVariants as flat
use Rattle.dsm_runs.specs.Flat.{IsBeside, core_of, flat_step}
use Rattle.dsm_runs.specs.Locals.{Local}
use Rattle.dsm_runs.specs.Setups.{Setup, size_of}
use Rattle.dsm_runs.specs.Worlds.{World}
use Rattle.sample_runs.specs.Summaries.{printed}
use Rattle.sample_sums.proofs.Goes.{AreSmall, Goes, goes}
use Rattle.sample_sums.proofs.Spots.{HasWords, IsPrintStep, IsSpot, Spot, WordsAt, core_at, cost_of, is_to_print, price_of}
use Rattle.sample_sums.proofs.Spots.{program}

-- the machine of a sample: four nodes, 64 words, R rounds, and what each node adds
pub record IsSample (s : Setup) (R : ℕ) (d : ℕ → ℕ) : Type 0 where
  pub programs : (i : ℕ) → i < 4 → slice_get s.programs i ≡ Some (program R (d i) i)
  pub nodes : s.shape.nodes ≡ 4
  pub size : size_of s ≡ 64
  pub init : s.init ≡ []
  pub budget : s.shape.budget ≡ 4000
  pub small : (i : ℕ) → i < 4 → AreSmall R (d i) i

-- node i, its processor and its words are at this spot
pub record NodeAt (R d i : ℕ) (l : Local) (words : List ℕ) : Type 0 where
  pub spot : Spot
  pub core : core_of l ≡ core_at R d i spot
  pub fits : IsSpot R spot
  pub mine : WordsAt R d i spot words

-- an instruction leads node i from this spot to the next
pub record Moved (R d i : ℕ) (spot : Spot) (l2 : Local) (words words2 : List ℕ) (did : Act) : Type 0 where
  pub node : NodeAt R d i l2 words2
  pub cost : cost_of R node.spot + price_of did ≤ cost_of R spot
  pub prints : IsPrintStep (R * d) (is_to_print spot) (is_to_print node.spot) (printed did)
  pub others : (o k : ℕ) → o < 4 → o ≢ i → slice_index words2 (o + 4 * k) ≡ slice_index words (o + 4 * k)

-- ---- an event that is not the node's, or completes no instruction

same_words : (d i a n : ℕ) (words words2 : List ℕ) → ((k : ℕ) → slice_index words2 (i + 4 * k) ≡ slice_index words (i + 4 * k))
    → HasWords d i a n words → HasWords d i a n words2
same_words d i a n words words2 same h = record {
  done = λ k lt. same k ∙ h.done k lt;
  left = λ k le lt. same k ∙ h.left k le lt;
}

pub stays_at : (R d i : ℕ) (l l2 : Local) (words words2 : List ℕ) (n : NodeAt R d i l words) → core_of l2 ≡ core_of l
    → ((k : ℕ) → slice_index words2 (i + 4 * k) ≡ slice_index words (i + 4 * k)) → WordsAt R d i n.spot words2
stays_at R d i l l2 words words2 n same words_same = same_words d i _ _ words words2 words_same n.mine

-- ---- an instruction on the flat machine

slice_get-set_same : {A : Type 0} (xs : List A) (i : ℕ) (v : A) → i < length xs → slice_get (set xs i v) i ≡ Some v
slice_get-set_same [] i v lt = absurd (omega arith)
slice_get-set_same (x ∷ xs) zero v lt = refl
slice_get-set_same (x ∷ xs) (suc i) v lt = slice_get-set_same xs i v (omega arith)

-- what a step of the flat machine did, by what its instruction did
record FlatRan (m : Machine) (i : ℕ) (p : List Instr) (core : Core) (did : Act) (next : Machine) : Type 0 where
  running : core.mode ≡ flat.Running
  act : (run_one p core m.words).act ≡ did
  cores : next.cores ≡ slice_set m.cores i (run_one p core m.words).core
  words : next.words ≡ (run_one p core m.words).words

abbrev left_by : Machine → ℕ → Ran → Act × Machine
left_by m i ran = (ran.act, record { programs = m.programs; cores = slice_set m.cores i ran.core; words = ran.words })

same_pair : (x y : Act × Machine) → Some x ≡ Some y → x ≡ y
same_pair x y e = cc

same_parts : (a b : Act) (m n : Machine) → (let x : Option (Act × Machine) = Some (a, m) in x) ≡ Some (b, n) → (a ≡ b) × (m ≡ n)
same_parts a b m n e = let p = same_pair (a, m) (b, n) e in (ap (λ x. x.0) p, ap (λ x. x.1) p)

flat_step_is : (m : Machine) (i : ℕ) (p : List Instr) (core : Core) → slice_get m.programs i ≡ Some p
    → slice_get m.cores i ≡ Some core
    → flat_step m i ≡ (if is_running_mode core.mode then Some (left_by m i (run_one p core m.words)) else None)
flat_step_is m i p core pe ce = rw (pe, ce) refl

none_some : (x : Act × Machine) → (let o : Option (Act × Machine) = None in o) ≡ Some x → ⊥
none_some x e = cc

flat_ran : (m : Machine) (i : ℕ) (p : List Instr) (core : Core) (did : Act) (next : Machine) → slice_get m.programs i ≡ Some p
    → slice_get m.cores i ≡ Some core
    → flat_step m i ≡ Some (did, next) → FlatRan m i p core did next
flat_ran m i p core did next pe ce st = go core.mode refl
  where
    is : flat_step m i ≡ (if is_running_mode core.mode then Some (left_by m i (run_one p core m.words)) else None)
    is = flat_step_is m i p core pe ce

    go : (mode : FlatMode) → core.mode ≡ mode → FlatRan m i p core did next
    go flat.Running em =
        let ran : Some (left_by m i (run_one p core m.words)) ≡ Some (did, next) =
        sym (is ∙ ap (λ (x : FlatMode). if is_running_mode x then Some (left_by m i (run_one p core m.words)) else None) em)
        ∙ st in
        let parts = same_parts (run_one p core m.words).act did (left_by m i (run_one p core m.words)).1 next ran in
        record {
          running = em;
          act = parts.0;
          cores = ap (λ (x : Machine). x.cores) (sym parts.1);
          words = ap (λ (x : Machine). x.words) (sym parts.1);
        }
    go flat.Halted em = absurd (none_some (did, next)
        (sym (is ∙ ap (λ (x : FlatMode). if is_running_mode x then Some (left_by m i (run_one p core m.words)) else None) em)
        ∙ st))
    go (flat.Trapped why) em = absurd
        (none_some (did, next) (sym (is
        ∙ ap (λ (x : FlatMode). if is_running_mode x then Some (left_by m i (run_one p core m.words)) else None) em) ∙ st))

same_some : (a b : Core) → (let x : Option Core = Some a in x) ≡ Some b → a ≡ b
same_some a b e = cc

-- ---- an instruction that completed

pub completes_at : (s : Setup) (R : ℕ) (d : ℕ → ℕ) (is : IsSample s R d) (g h : World) (m next : Machine) (i : ℕ) (did : Act)
    → IsBeside s g m → IsBeside s h next → flat_step m i ≡ Some (did, next) → i < 4
    → (n : NodeAt R (d i) i (g.locals i) m.words) → Moved R (d i) i n.spot (h.locals i) m.words next.words did
completes_at s R d is g h m next i did beside beside2 st li n = record {
  node = record {
    spot = gone.next;
    core = core;
    fits = gone.fits;
    mine = subst (λ (w : List ℕ). WordsAt R (d i) i gone.next w) (sym ran.words) gone.mine;
  };
  cost = subst (λ (a : Act). cost_of R gone.next + price_of a ≤ cost_of R n.spot) ran.act gone.cost;
  prints = subst (λ (a : Act). IsPrintStep (R * d i) (is_to_print n.spot) (is_to_print gone.next) (printed a)) ran.act
      gone.prints;
  others = λ o k lo ne. ap (λ (w : List ℕ). slice_index w (o + 4 * k)) ran.words ∙ gone.others o k lo ne;
}
  where
    within : i < s.shape.nodes
    within = let e : s.shape.nodes ≡ 4 = is.nodes in omega arith

    p : List Instr
    p = program R (d i) i

    core_then : Core
    core_then = core_at R (d i) i n.spot

    has_core : slice_get m.cores i ≡ Some core_then
    has_core = beside.cores i within ∙ ap Some n.core

    ran : FlatRan m i p core_then did next
    ran = flat_ran m i p core_then did next
        (ap (λ (ps : List (List Instr)). slice_get ps i) beside.programs ∙ is.programs i li) has_core st

    gone : Goes R (d i) i n.spot m.words (run_one p core_then m.words)
    gone = goes R (d i) i (is.small i li) m.words (beside.size ∙ is.size) n.spot ran.running n.fits n.mine

    core : core_of (h.locals i) ≡ core_at R (d i) i gone.next
    core =
        let set_there : slice_get next.cores i ≡ Some (run_one p core_then m.words).core =
        ap (λ (cs : List Core). slice_get cs i) ran.cores
        ∙ slice_get-set_same m.cores i (run_one p core_then m.words).core (slice_get_within m.cores i core_then has_core) in
        same_some (core_of (h.locals i)) (run_one p core_then m.words).core (sym (beside2.cores i within) ∙ set_there) ∙ gone.core
