-- Messages are handed over: the nodes stand for the same courses, and the same is on the way.
use Rattle.std.proofs.Common.{◌≡◌, ◌∙◌, ◌≢◌, ℕ, zero, suc, ◌<◌, ◌≤◌, List, [], ◌∷◌, ◌++◌, Option, Some, None, length, refl, ap}
use Rattle.std.proofs.Common.{sym, subst, arith, append-nil}
use Rattle.std.specs.Prelude.{slice_get, slice_set}
use Rattle.tw_base.specs.declared.message.Message.{Message}
use Rattle.dsm_runs.specs.Setups.{Setup}
use Rattle.dsm_runs.specs.Worlds.{Runs, World}
use Rattle.node_meaning.specs.Nodes.{Shown}
use Rattle.node_meaning.specs.Tallies.{first_tally}
use Rattle.still_meaning.specs.Stills.{Passes, GoesThrough, IsStill, StillShown, tallies, tally_in}

-- ---- lists

pub set_here : {X : Type 0} (xs : List X) (i : ℕ) (x : X) → i < length xs → slice_get (slice_set xs i x) i ≡ Some x
set_here [] i x l = absurd (omega arith)
set_here (y ∷ xs) zero x l = refl
set_here (y ∷ xs) (suc i) x l = set_here xs i x (omega arith)

pub set_other : {X : Type 0} (xs : List X) (i j : ℕ) (x : X) → j ≢ i → slice_get (slice_set xs i x) j ≡ slice_get xs j
set_other [] i j x d = refl
set_other (y ∷ xs) zero zero x d = absurd (d refl)
set_other (y ∷ xs) zero (suc j) x d = refl
set_other (y ∷ xs) (suc i) zero x d = refl
set_other (y ∷ xs) (suc i) (suc j) x d = set_other xs i j x (λ q. d (ap suc q))

none_there : {X : Type 0} (xs : List X) (i : ℕ) → slice_get xs i ≡ None → length xs ≤ i
none_there [] i h = omega arith
none_there (x ∷ xs) zero h = absurd cc
none_there (x ∷ xs) (suc i) h = let rest = none_there xs i h in omega (arith, rest)

past : {X : Type 0} (xs : List X) (i : ℕ) → length xs ≤ i → slice_get xs i ≡ None
past [] i h = refl
past (x ∷ xs) zero h = absurd (omega arith)
past (x ∷ xs) (suc i) h = past xs i (omega arith)

-- ---- what stays

pub passes_still : (a b : StillShown) (g : World) → Passes a b → IsStill a g → IsStill b g
passes_still a b g p h =
    let back : (k : ℕ) → k < b.setup.shape.nodes → k < a.setup.shape.nodes =
    λ k l. subst (λ (s : Setup). k < s.shape.nodes) p.same_setup l in
    record {
      count = p.count ∙ h.count ∙ ap (λ (s : Setup). s.shape.nodes) (sym p.same_setup);
      ends = h.ends;
      nodes = λ i n there.
          let o = p.nodes i n there in
          let w = h.nodes i o.old o.there in
          record {
            setup = o.setup ∙ w.setup ∙ sym p.same_setup;
            code = o.code ∙ w.code ∙ sym p.same_code;
            me = o.me
                ∙ w.me;
            stands = o.stands (h.ends i) w.stands;
          };
      agrees = λ f t c lf lt. h.agrees f t c (back f lf) (back t lt)
          ∙ ap (λ (ms : List Message). (h.ends t).took f c ++ ms) (sym (p.flight f t c (back f lf) (back t lt)));
      joined = record {
        locals = λ i l. h.joined.locals i (back i l);
        wires = λ f t c lf lt. h.joined.wires f t c (back f lf) (back t lt) ∙ sym (p.flight f t c (back f lf) (back t lt));
        next = λ f t c lf lt. h.joined.next f t c (back f lf) (back t lt);
      };
    }

passes_tally : (a b : StillShown) → Passes a b → (i : ℕ) → tallies b i ≡ tallies a i
passes_tally a b p i = go (slice_get b.nodes i) refl
  where
    go : (o : Option Shown) → slice_get b.nodes i ≡ o → tallies b i ≡ tallies a i
    go None h =
        let gone : slice_get a.nodes i ≡ None = past a.nodes i (omega (arith, none_there b.nodes i h, p.count)) in
        ap (λ (o : Option Shown). tally_in b.setup i o) h ∙ ap (λ (s : Setup). first_tally s i) p.same_setup
        ∙ sym (ap (λ (o : Option Shown). tally_in a.setup i o) gone)
    go (Some n) h =
        let o = p.nodes i n h in
        ap (λ (x : Option Shown). tally_in b.setup i x) h ∙ o.tally
        ∙ sym (ap (λ (x : Option Shown). tally_in a.setup i x) o.there)

pub passes_tallies : (a b : StillShown) → Passes a b → tallies b ≡ tallies a
passes_tallies a b p = λ j i. passes_tally a b p i j

pub passes_through : (a b : StillShown) → Passes a b → GoesThrough a b [] (Runs a.setup)
passes_through a b p = record {
  same_setup = p.same_setup;
  same_code = p.same_code;
  taken = p.taken ∙ sym (append-nil a.taken);
  ran = λ g s. (g, refl, passes_still a b g p s, (refl, sym (passes_tallies a b p)));
}
