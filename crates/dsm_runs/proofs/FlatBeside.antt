-- A state of a run beside a flat machine: the same programs and processors, and a word for each address.
use Rattle.std.proofs.Common.{◌≡◌, ◌≢◌, ℕ, zero, suc, ◌<◌, ◌⊎◌, inl, inr, length, replicate, set, List, [], ◌∷◌, Bool, true}
use Rattle.std.proofs.Common.{false, Some, refl, sym, ap, ◌∙◌, subst, arith}
use Rattle.std.specs.Prelude.{slice_get}
use Rattle.std.proofs.lemmas.Bool.{cases_eq}
use Rattle.std.proofs.lemmas.List.{get_or-replicate, length-replicate}
use Rattle.std.proofs.lemmas.Option.{slice_get-get_or, slice_get_within}
use Rattle.mini_asm.specs.Run.{Machine, first_cpu}
use Rattle.mini_asm.proofs.Starts.{length-first_words}
use Rattle.dsm_runs.specs.declared.mode.Mode.TheVariants as mode
use Rattle.dsm_runs.specs.Setups.{IsSetup, Setup, size_of}
use Rattle.dsm_runs.specs.Worlds.{Step, World, start}
use Rattle.tw_base.specs.declared.entry.Entry.{Entry}
use Rattle.dsm_runs.specs.Flat.{DueStepsAreFlat, FollowsOne, FlatGoesOn, IsBeside, core_in, core_of, flat_start, is_completed}
use Rattle.dsm_runs.proofs.Repeating.{IsAt, Repeats, acts-go-due, acts-stay, silent-words, with_core}

-- ---- places of lists

slice_get-set_same : {A : Type 0} (xs : List A) (i : ℕ) (v : A) → i < length xs → slice_get (set xs i v) i ≡ Some v
slice_get-set_same [] i v lt = absurd (omega arith)
slice_get-set_same (x ∷ xs) zero v lt = refl
slice_get-set_same (x ∷ xs) (suc i) v lt = slice_get-set_same xs i v (omega arith)

slice_get-set_other : {A : Type 0} (xs : List A) (i j : ℕ) (v : A) → j ≢ i → slice_get (set xs i v) j ≡ slice_get xs j
slice_get-set_other [] i j v d = refl
slice_get-set_other (x ∷ xs) zero zero v d = absurd (d refl)
slice_get-set_other (x ∷ xs) zero (suc j) v d = refl
slice_get-set_other (x ∷ xs) (suc i) zero v d = refl
slice_get-set_other (x ∷ xs) (suc i) (suc j) v d = slice_get-set_other xs i j v (λ q. d (ap suc q))

slice_get-replicate : {A : Type 0} (n i : ℕ) (x : A) → i < n → slice_get (replicate n x) i ≡ Some x
slice_get-replicate n i x lt = slice_get-get_or (replicate n x) i x (omega (arith, length-replicate n x))
    ∙ ap Some (get_or-replicate n i x x lt)

-- ---- the start

pub beside_start : (s : Setup) → IsBeside s (start s) (flat_start s)
beside_start s = record {
  programs = refl;
  size = length-first_words (size_of s) s.init;
  cores = λ i lt. slice_get-replicate s.shape.nodes i (core_in first_cpu mode.Running) lt;
}

-- ---- a step

pub beside-at : (s : Setup) (g : World) (m : Machine) (i : ℕ) → IsSetup s → IsBeside s g m → i < s.shape.nodes →
    IsAt s m i (g.locals i)
beside-at s g m i setup beside lt = record {
  program = rw beside.programs (slice_get-get_or s.programs i [] (omega (arith, setup.programs)));
  core = beside.cores i lt;
  size = beside.size;
}

-- the processor of the node stays
pub beside-stays : (s : Setup) (g h : World) (m : Machine) (i : ℕ) → ((k : ℕ) → k ≢ i → h.locals k ≡ g.locals k) →
    core_of (h.locals i) ≡ core_of (g.locals i)
    → IsBeside s g m → IsBeside s h m
beside-stays s g h m i others stays beside = record {
  programs = beside.programs;
  size = beside.size;
  cores = λ k lt. beside.cores k lt ∙ ap Some (sym (same k));
}
  where
    same : (k : ℕ) → core_of (h.locals k) ≡ core_of (g.locals k)
    same k = elim (cases_eq k i) [
      | inl here ↦ subst (λ n. core_of (h.locals n) ≡ core_of (g.locals n)) (sym here) stays
      | inr other ↦ ap core_of (others k other)
    ]

-- the flat machine comes to the node's processor
pub beside-goes : (s : Setup) (g h : World) (m : Machine) (i : ℕ) (words : List ℕ) → i < s.shape.nodes →
    ((k : ℕ) → k ≢ i → h.locals k ≡ g.locals k) → length words ≡ length m.words
    → IsBeside s g m → IsBeside s h (with_core m i (core_of (h.locals i)) words)
beside-goes s g h m i words lt others size beside = record {
  programs = beside.programs;
  size = size ∙ beside.size;
  cores = λ k below. at k below (cases_eq k i);
}
  where
    at : (k : ℕ) → k < s.shape.nodes → (k ≡ i) ⊎ (k ≢ i) → slice_get (set m.cores i (core_of (h.locals i))) k
        ≡ Some (core_of (h.locals k))
    at k below (inl here) =
        subst (λ n. slice_get (set m.cores i (core_of (h.locals i))) n ≡ Some (core_of (h.locals n))) (sym here)
        (slice_get-set_same m.cores i (core_of (h.locals i))
        (slice_get_within m.cores i (core_of (g.locals i)) (beside.cores i lt)))
    at k below (inr other) = slice_get-set_other m.cores i k (core_of (h.locals i)) other ∙ beside.cores k below
        ∙ ap (λ l. Some (core_of l)) (sym (others k other))

-- ---- a step whose reads are due

completed_goes : (s : Setup) (g : World) (e : Entry) (h : World) (m : Machine) → is_completed e.act ≡ true → IsBeside s g m →
    (r : Step s g e h) → Repeats m e.node e.act (core_of (h.locals e.node)) → FlatGoesOn s m e h
completed_goes s g e h m completed beside r goes = record {
  next = with_core m e.node (core_of (h.locals e.node)) goes.words;
  follows = subst (λ (b : Bool). FollowsOne b m e (with_core m e.node (core_of (h.locals e.node)) goes.words))
      (sym completed) goes.steps;
  beside = beside-goes s g h m e.node goes.words r.local.at_node r.others goes.size beside;
  words = goes.is;
}

silent_goes : (s : Setup) (g : World) (e : Entry) (h : World) (m : Machine) → is_completed e.act ≡ false → IsBeside s g m →
    Step s g e h → FlatGoesOn s m e h
silent_goes s g e h m silent beside r = record {
  next = m;
  follows = subst (λ (b : Bool). FollowsOne b m e m) (sym silent) refl;
  beside =
      beside-stays s g h m e.node r.others (acts-stay s e.node (g.locals e.node) r.front
      (h.locals e.node) e r.sends e.act silent r.local.acts) beside;
  words = sym (silent-words e.act m.words silent);
}

pub due_steps_are_flat : DueStepsAreFlat
due_steps_are_flat s g e h m setup beside r due = go (is_completed e.act) refl
  where
    go : (b : Bool) → is_completed e.act ≡ b → FlatGoesOn s m e h
    go true completed = completed_goes s g e h m completed beside r
        (acts-go-due s m e.node (g.locals e.node) r.front (h.locals e.node) e r.sends e.act completed
        (beside-at s g m e.node setup beside r.local.at_node) r.local.acts due)
    go false silent = silent_goes s g e h m silent beside r
