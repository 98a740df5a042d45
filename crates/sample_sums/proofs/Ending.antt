-- A run of a sample that comes to rest: all nodes have halted, at the last spot.
use Rattle.std.proofs.Common.{◌≡◌, ℕ, ◌+◌, ◌*◌, ◌<◌, ◌≤◌, ◌⊎◌, inl, inr, Bool, false, List, [], Option}
use Rattle.std.proofs.Common.{None, refl, sym, ap, subst, ◌∙◌, arith}
use Rattle.std.specs.Prelude.{slice_index, ◌||◌}
use Rattle.std.proofs.lemmas.Bool.{lt-leb, ne_eqb}
use Rattle.std.proofs.lemmas.List.{get_or-replicate}
use Rattle.tw_base.specs.Shape.{handler_budget_of}
use Rattle.tw_base.specs.declared.entry.End.{End}
use Rattle.tw_base.specs.declared.entry.Entry.{Entry}
use Rattle.tw_base.specs.declared.entry.Event.TheVariants as event
use Rattle.tw_base.specs.declared.entry.Trap.{Trap}
use Rattle.mini_asm.specs.Run.{Machine, first_words}
use Rattle.mini_asm.specs.declared.processor.FlatMode.TheVariants as flat
use Rattle.dsm_runs.specs.declared.mode.Mode.{Mode}
use Rattle.dsm_runs.specs.declared.mode.Mode.TheVariants as mode
use Rattle.dsm_runs.specs.declared.outcome.Outcome.TheVariants as outcome
use Rattle.dsm_runs.specs.Flat.{flat_mode, flat_start}
use Rattle.dsm_runs.specs.Locals.{IsReady, Local, MayInstruct}
use Rattle.dsm_runs.specs.Outcomes.{outcome_by, outcome_of}
use Rattle.dsm_runs.specs.Setups.{IsSetup, Setup, size_of}
use Rattle.dsm_runs.specs.Tests.{is_ready}
use Rattle.dsm_runs.specs.Worlds.{IsQuiet, Runs, World, start}
use Rattle.stache_tree.specs.Tree.{IsStache}
use Rattle.coherence_inv.specs.Ends.{IsDone, Unspent}
use Rattle.coherence_inv.specs.Laws.{IsKept}
use Rattle.coherence_inv.specs.Parts.{First}
use Rattle.coherence_inv.proofs.Done.{no_budget_is_spent, quiet_runs_are_done}
use Rattle.coherence_inv.proofs.Keeping.{starts_kept}
use Rattle.sample_runs.specs.Summaries.{first_print}
use Rattle.sample_sums.proofs.Nodes.{IsSample, NodeAt}
use Rattle.sample_sums.proofs.Runs.{Free, NodeIn, RunEnds, few_made, run_ends}
use Rattle.sample_sums.proofs.Spots.{Fresh, HasRounds, HasIncrement, HasEnd, HasStride, Outer, Load, AddUp, Keep, Move, Back}
use Rattle.sample_sums.proofs.Spots.{Count, Again, Fetch, Show, Stop, Over, Spot, WordsAt, core_at, is_to_print}

-- ---- the start

start_word : (s : Setup) (a : ℕ) → s.init ≡ [] → size_of s ≡ 64 → a < 64 → slice_index (flat_start s).words a ≡ 0
start_word s a none size lt =
    ap (λ (init : List (ℕ × ℕ)). slice_index (first_words (s.shape.words * s.shape.blocks) init) a) none
    ∙ get_or-replicate (s.shape.words * s.shape.blocks) a 0 0 (let e : s.shape.words * s.shape.blocks ≡ 64 = size in omega arith)

none_yet : (n d : ℕ) → n ≡ 0 → n ≡ 0 * d
none_yet n d e = omega arith

start_node : (s : Setup) (R : ℕ) (d : ℕ → ℕ) → IsSample s R d → (i : ℕ) → i < 4 → NodeIn s R d i (start s) (flat_start s).words
start_node s R d is i li = record {
  place = record {
    spot = Fresh;
    core = refl;
    fits = tt;
    mine = record {
      done = λ k lt. absurd (omega arith);
      left = λ k le lt. none_yet _ (d i) (start_word s (i + 4 * k) is.init is.size (omega arith));
    };
  };
  few = Free (omega arith);
}

-- ---- the end

spot_modes : (R d i : ℕ) (spot : Spot) → ((core_at R d i spot).mode ≡ flat.Running) ⊎ (spot ≡ Over)
spot_modes R d i Fresh = inl refl
spot_modes R d i HasRounds = inl refl
spot_modes R d i HasIncrement = inl refl
spot_modes R d i HasEnd = inl refl
spot_modes R d i HasStride = inl refl
spot_modes R d i (Outer l a x y) = inl refl
spot_modes R d i (Load l a m n y) = inl refl
spot_modes R d i (AddUp l a m n) = inl refl
spot_modes R d i (Keep l a m n) = inl refl
spot_modes R d i (Move l a m n) = inl refl
spot_modes R d i (Back l a m n) = inl refl
spot_modes R d i (Count l a) = inl refl
spot_modes R d i (Again l a) = inl refl
spot_modes R d i Fetch = inl refl
spot_modes R d i Show = inl refl
spot_modes R d i Stop = inl refl
spot_modes R d i Over = inr refl

-- a node that has halted, at the last spot
record IsOver (l : Local) (spot : Spot) : Type 0 where
  halted : l.mode ≡ mode.Halted
  over : spot ≡ Over

halted_over : (R d i : ℕ) (l : Local) (words : List ℕ) (n : NodeAt R d i l words) → l.mode ≡ mode.Halted → n.spot ≡ Over
halted_over R d i l words n em = go (spot_modes R d i n.spot)
  where
    go : ((core_at R d i n.spot).mode ≡ flat.Running) ⊎ (n.spot ≡ Over) → n.spot ≡ Over
    go (inl runs) = absurd (let z : flat.Halted ≡ flat.Running = sym (ap flat_mode em) ∙ ap (λ c. c.mode) n.core ∙ runs in cc)
    go (inr over) = over

never_trapped : (R d i : ℕ) (l : Local) (words : List ℕ) (n : NodeAt R d i l words) (why : Trap) → l.mode ≡ mode.Trapped why → ⊥
never_trapped R d i l words n why em = go (spot_modes R d i n.spot)
  where
    go : ((core_at R d i n.spot).mode ≡ flat.Running) ⊎ (n.spot ≡ Over) → ⊥
    go (inl runs) = let z : flat.Trapped why ≡ flat.Running = sym (ap flat_mode em) ∙ ap (λ c. c.mode) n.core ∙ runs in cc
    go (inr over) = let z : flat.Trapped why ≡ flat.Halted = sym (ap flat_mode em) ∙ ap (λ c. c.mode) n.core
        ∙ ap (λ x. (core_at R d i x).mode) over in cc

module _ (s : Setup) (R : ℕ) (d : ℕ → ℕ) (is : IsSample s R d) (setup : IsSetup s) (h : World) (m : Machine)
    (kept : IsKept s h m) (unspent : Unspent s h) (done : IsDone s h) (quiet : IsQuiet s h)
    (i : ℕ) (li : i < 4) (n : NodeIn s R d i h m.words) where
  within : i < s.shape.nodes
  within = let e : s.shape.nodes ≡ 4 = is.nodes in omega arith

  unfailed : (h.locals i).failed ≡ None
  unfailed = (kept.coherent 0 setup.limits.some_block First).unfailed i within

  may_instruct : IsReady (h.locals i).mode → MayInstruct s (h.locals i)
  may_instruct ready = record {
    unfailed = unfailed;
    ready = ready;
    instructions =
        let few : (h.locals i).instructions ≤ 115 * R + 9 = few_made s R i h _ _ n.few in
        let small : R ≤ 32 = (is.small i li).rounds in
        let budget : s.shape.budget ≡ 4000 = is.budget in
        omega arith;
    sent = unspent.sent i within;
    clock = unspent.clock i;
  }

  is_over : IsOver (h.locals i) n.place.spot
  is_over = go (h.locals i).mode refl
    where
      ends : (x : Mode) → (h.locals i).mode ≡ x → IsReady x → ⊥
      ends x e ready = quiet (event.Instr i) (within, may_instruct (subst IsReady (sym e) ready))

      go : (x : Mode) → (h.locals i).mode ≡ x → IsOver (h.locals i) n.place.spot
      go mode.Running e = absurd (ends mode.Running e tt)
      go mode.Woken e = absurd (ends mode.Woken e tt)
      go (mode.Blocked b) e = absurd (done.modes i b within e)
      go mode.Halted e = record { halted = e; over = halted_over R (d i) i (h.locals i) m.words n.place e }
      go (mode.Trapped why) e = absurd (never_trapped R (d i) i (h.locals i) m.words n.place why e)

  outcome_is : (failed : Option End) (x : Mode) (a b : Bool) → failed ≡ None → x ≡ mode.Halted → a ≡ false → b ≡ false
      → outcome_by failed x (a || (b || is_ready x)) ≡ outcome.Halted
  outcome_is failed x a b e0 e1 e2 e3 = rw (e0, e1, e2, e3) refl

  pub ends_halted : outcome_of s (h.locals i) ≡ outcome.Halted
  ends_halted =
      let handled : (h.locals i).handled < handler_budget_of s.shape = unspent.handled i within in
      outcome_is (h.locals i).failed (h.locals i).mode _ _ unfailed is_over.halted
      (ne_eqb (h.locals i).handled (handler_budget_of s.shape) (λ e. omega arith))
      (lt-leb (handler_budget_of s.shape) (h.locals i).sent (unspent.sent i within))

  pub ends_over : n.place.spot ≡ Over
  ends_over = is_over.over

-- ---- a whole run

pub record SampleEnds (s : Setup) (R : ℕ) (d : ℕ → ℕ) (j : List Entry) (h : World) : Type 0 where
  pub machine : Machine
  pub kept : IsKept s h machine
  pub halted : (i : ℕ) → i < 4 → outcome_of s (h.locals i) ≡ outcome.Halted
  pub printed : (i : ℕ) → i < 4 → first_print i j ≡ R * d i
  pub words : (i n : ℕ) → i < 4 → n < 16 → slice_index machine.words (i + 4 * n) ≡ R * d i
  pub instructions : (i : ℕ) → i < 4 → (h.locals i).instructions ≤ 115 * R + 9

pub sample_ends : (s : Setup) (R : ℕ) (d : ℕ → ℕ) → IsSample s R d → IsSetup s → IsStache s.protocol
    → (j : List Entry) (h : World) → Runs s (start s) j h → IsQuiet s h → SampleEnds s R d j h
unfolding start_node
sample_ends s R d is setup stache j h r quiet = record {
  machine = ends.machine;
  kept = ends.kept;
  halted = λ i li. ends_halted s R d is setup h ends.machine ends.kept unspent done quiet i li (node i li);
  printed = λ i li. (ends.nodes i li).prints refl (ap is_to_print (over i li));
  words = λ i n li ln. (subst (λ (x : Spot). WordsAt R (d i) i x ends.machine.words) (over i li) (node i li).place.mine).left n
      (omega arith) ln;
  instructions = λ i li. few_made s R i h _ _ (node i li).few;
}
  where
    ends : RunEnds s R d (λ i li. Fresh) j h
    ends = run_ends s R d is setup (start s) j h (flat_start s) (starts_kept s setup stache) (start_node s R d is) r

    unspent : Unspent s h
    unspent = no_budget_is_spent s j h setup stache r

    done : IsDone s h
    done = quiet_runs_are_done s j h setup stache r quiet

    node : (i : ℕ) (li : i < 4) → NodeIn s R d i h ends.machine.words
    node i li = (ends.nodes i li).node

    over : (i : ℕ) (li : i < 4) → (node i li).place.spot ≡ Over
    over i li = ends_over s R d is setup h ends.machine ends.kept unspent done quiet i li (node i li)
