-- Slots after a write.
use Rattle.std.proofs.Common.{◌≡◌, ℕ, ◌<◌, ◌≤◌, ◌⊎◌, Bool, List, ◌∷◌, length, Some, sym, ap, subst, arith, ◌∙◌, ⊎_elim}
use Rattle.std.specs.Prelude.{slice_set}
use Rattle.std.proofs.lemmas.Bool.{cases_eq}
use Rattle.tw_base.specs.declared.name.Name.{Name}
use Rattle.tw_base.specs.declared.value.Value.{Value}
use Rattle.teapot_meaning.specs.declared.state.Bound.{Bound}
use Rattle.teapot_meaning.specs.Steps.{set_of}
use Rattle.handler_code.specs.declared.code.OpCode.{OpCode}
use Rattle.handler_code.specs.Live.{HasOp, LeadsTo, ReadsFirst, later}
use Rattle.compiled_meaning.specs.Follows.{Loop, Nested}
use Rattle.handler_code.specs.Machine.{value_at}
use Rattle.compiled_meaning.specs.Stands.{Agrees, names_of, values_of}
use Rattle.compiled_meaning.proofs.Vars.{length_of_names, length_set, length-values, value_set-other, value_set-same, values-set}
use Rattle.compiled_meaning.proofs.Exprs.{nested_low, nested_more, sets_keep}

module _ (ops : List OpCode) (width : ℕ) (slots : List Value) (vars : List Bound) (loops : List Loop) where
  -- an op that writes a variable
  pub agrees_set : (at next k : ℕ) (o : OpCode) (name : Name) (x : Value) → HasOp ops at o → LeadsTo o at next (Some k) →
      k < length vars → names_of (slice_set vars k (record { name = name; value = x })) ≡ names_of vars →
      Agrees ops width at slots vars loops → Agrees ops width next (slice_set slots k x)
      (slice_set vars k (record { name = name; value = x })) loops
  agrees_set at next k o name x h l lt e g =
      record {
        sized = omega (arith, g.sized, length_set slots k x);
        fits = omega (arith, g.fits, length_set vars k (record { name = name; value = x }));
        nested = subst (λ names. Nested names width loops) (sym e) g.nested;
        live = λ j jlt r. by_slot j (omega (arith, jlt, length_set vars k (record { name = name; value = x }))) r (cases_eq k j);
        sets = sets_keep ops at next slots (slice_set slots k x) (names_of vars) width loops g.nested
            (λ slot set a b f r. other slot (λ e. above slot a e) ∙ f (later h l (λ e. above slot a (cc)) r)) g.sets;
      }
    where
      above : (slot : ℕ) → length (names_of vars) ≤ slot → k ≡ slot → ⊥
      above slot a e = omega (arith, length_of_names vars)

      other : (slot : ℕ) → (k ≡ slot → ⊥) → set_of (value_at (slice_set slots k x) slot) ≡ set_of (value_at slots slot)
      other slot d = ap set_of (value_set-other slots k slot x d)

      in_values : k < length (values_of vars)
      in_values = omega (arith, length-values vars)

      in_slots : k < length slots
      in_slots = omega (arith, g.sized, g.fits)

      same : value_at (slice_set slots k x) k ≡ value_at (values_of (slice_set vars k (record { name = name; value = x }))) k
      same =
          value_set-same slots k x in_slots
          ∙ sym (ap (λ l. value_at l k) (values-set vars k (record { name = name; value = x }))
          ∙ value_set-same (values_of vars) k x in_values)

      by_slot : (j : ℕ) → j < length vars → ReadsFirst ops next j → (k ≡ j) ⊎ (k ≡ j → ⊥) →
          value_at (slice_set slots k x) j ≡ value_at (values_of (slice_set vars k (record { name = name; value = x }))) j
      by_slot j jlt r c =
          ⊎_elim
          (λ e. subst (λ i. value_at (slice_set slots k x) i
          ≡ value_at (values_of (slice_set vars k (record { name = name; value = x }))) i) e same)
          (λ d. value_set-other slots k j x d ∙ g.live j jlt (later h l (λ e. d (cc)) r)
          ∙ sym (ap (λ l. value_at l j) (values-set vars k (record { name = name; value = x }))
          ∙ value_set-other (values_of vars) k j x d))
          c

  -- an op that writes the set of a new loop
  pub agrees_new : (at next slot : ℕ) (o : OpCode) (y : Value) → HasOp ops at o → LeadsTo o at next (Some slot) →
      slot < width → Nested (names_of vars) slot loops → Agrees ops width at slots vars loops →
      Agrees ops width next (slice_set slots slot y) vars (record { slot = slot; set = set_of y } ∷ loops)
  agrees_new at next slot o y h l lt n g =
      record {
        sized = omega (arith, g.sized, length_set slots slot y);
        fits = g.fits;
        nested = (lt, n);
        live = λ j jlt r. value_set-other slots slot j y (λ e. low j jlt e) ∙ g.live j jlt (later h l (λ e. low j jlt (cc)) r);
        sets = (
          λ r. ap set_of (value_set-same slots slot y (omega (arith, g.sized))),
          sets_keep ops at next slots (slice_set slots slot y) (names_of vars) slot loops n
              (λ s set a b f r. ap set_of (value_set-other slots slot s y (λ e. absurd (omega arith)))
              ∙ f (later h l (λ e. apart s b e) r)) g.sets,
        );
      }
    where
      bound : length vars ≤ slot
      bound = omega (arith, nested_low (names_of vars) slot loops n, length_of_names vars)

      low : (j : ℕ) → j < length vars → slot ≡ j → ⊥
      low j jlt e = omega (arith, bound)

      apart : (s : ℕ) → s < slot → Some slot ≡ Some s → ⊥
      apart s b e = let same : slot ≡ s = cc in omega arith

  -- the set of the innermost loop, written at the same place
  pub agrees_turn : (at slot : ℕ) (set : List Bool) (y : Value) →
      Agrees ops width at slots vars (record { slot = slot; set = set } ∷ loops) →
      Agrees ops width at (slice_set slots slot y) vars (record { slot = slot; set = set_of y } ∷ loops)
  agrees_turn at slot set y g =
      record {
        sized = omega (arith, g.sized, length_set slots slot y);
        fits = g.fits;
        nested = g.nested;
        live = λ j jlt r. value_set-other slots slot j y (λ e. low j jlt e) ∙ g.live j jlt r;
        sets = (
          λ r. ap set_of (value_set-same slots slot y inside),
          sets_keep ops at at slots (slice_set slots slot y) (names_of vars) slot loops g.nested.1
              (λ s set a b f r. ap set_of (value_set-other slots slot s y (λ e. absurd (omega arith))) ∙ f r) g.sets.1,
        );
      }
    where
      high : slot < width
      high = g.nested.0

      inside : slot < length slots
      inside = omega (arith, g.sized, high)

      bound : length vars ≤ slot
      bound = omega (arith, nested_low (names_of vars) slot loops g.nested.1, length_of_names vars)

      low : (j : ℕ) → j < length vars → slot ≡ j → ⊥
      low j jlt e = omega (arith, bound)

  -- the innermost loop is over
  pub agrees_end : (at slot : ℕ) (set : List Bool) → Agrees ops width at slots vars
      (record { slot = slot; set = set } ∷ loops) → Agrees ops width at slots vars loops
  agrees_end at slot set g =
      let high : slot < width = g.nested.0 in
      record {
        sized = g.sized;
        fits = g.fits;
        nested = nested_more (names_of vars) slot width loops (omega arith) g.nested.1;
        live = g.live;
        sets = g.sets.1;
      }
