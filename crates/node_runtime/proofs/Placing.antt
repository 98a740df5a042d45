-- Nodes are placed and opened one after another.
use Rattle.std.proofs.Common.{◌≡◌, ◌⊎◌, ℕ, zero, suc, ◌+◌, ◌-◌, ◌<◌, ◌≤◌, List, [], ◌∷◌, ◌++◌, Some, length, min, refl, ap, sym}
use Rattle.std.proofs.Common.{subst, arith, inl}
use Rattle.std.proofs.Common.{inr, length-append, zero-add}
use Rattle.std.specs.Prelude.{slice_get}
use Rattle.std.proofs.lemmas.Option.{slice_get_within}
use Rattle.handler_code.specs.declared.code.Code.{Code}
use Rattle.dsm_runs.specs.Setups.{Setup}
use Rattle.tw_wire.specs.Places.{Names}
use Rattle.tw_wire.specs.Wires.{AreEndsOf, AreNew, AreUnused, EndsShown}
use Rattle.seat_meaning.specs.Seats.{IsSeated}
use Rattle.node_seats.specs.declared.seat.Opened.{Opened}
use Rattle.node_runtime.specs.Places.{AreEndsFrom, AreOpenedBelow, seated_of}

-- ---- ends

pub ends_new : (n : ℕ) (names : Names) (ends : List EndsShown) → AreNew n names ends → AreEndsFrom n names 0 ends
ends_new n names ends new = record {
  count = let count : length ends ≡ n = new.count in omega arith;
  each = λ i e at. subst (λ k. AreEndsOf n names k e × AreUnused e) (sym (zero-add i)) (new.each i e at);
}

pub some_ends : (n : ℕ) (names : Names) (k : ℕ) (ends : List EndsShown) → AreEndsFrom n names k ends → k < n → 0 < length ends
some_ends n names k ends from within = let count : length ends ≡ n - k = from.count in omega arith

pub first_ends : (n : ℕ) (names : Names) (k : ℕ) (e : EndsShown) (rest : List EndsShown) → AreEndsFrom n names k (e ∷ rest) →
    AreEndsOf n names k e × AreUnused e
first_ends n names k e rest from =
    let same : k + 0 ≡ k = omega arith in
    subst (λ j. AreEndsOf n names j e × AreUnused e) same (from.each 0 e refl)

pub later_ends : (n : ℕ) (names : Names) (k : ℕ) (e : EndsShown) (rest : List EndsShown) → AreEndsFrom n names k (e ∷ rest) →
    AreEndsFrom n names (k + 1) rest
later_ends n names k e rest from = record {
  count = let count : length (e ∷ rest) ≡ n - k = from.count in omega arith;
  each = λ i x at.
      let same : k + suc i ≡ k + 1 + i = omega arith in
      subst (λ j. AreEndsOf n names j x × AreUnused x) same (from.each (suc i) x at);
}

-- past the last node there are none
pub no_ends : (n : ℕ) (names : Names) (k : ℕ) (ends : List EndsShown) → AreEndsFrom n names k ends → n ≤ k →
    AreEndsFrom n names (k + 1) ends
no_ends n names k ends from past = record {
  count = let count : length ends ≡ n - k = from.count in omega arith;
  each = λ i e at.
      let count : length ends ≡ n - k = from.count in
      let within : i < length ends = slice_get_within ends i e at in
      absurd (omega arith);
}

-- ---- opened seats

last_or_before : {X : Type 0} (xs : List X) (y : X) (i : ℕ) (x : X) → slice_get (xs ++ y ∷ []) i ≡ Some x →
    (slice_get xs i ≡ Some x) ⊎ ((i ≡ length xs) × (y ≡ x))
last_or_before [] y zero x h = inr (refl, cc)
last_or_before [] y (suc i) x h = absurd cc
last_or_before (z ∷ xs) y zero x h = inl h
last_or_before (z ∷ xs) y (suc i) x h = elim (last_or_before xs y i x h) [ inl a ↦ inl a | inr b ↦ inr (ap suc b.0, b.1) ]

module _ (s : Setup) (code : Code) (names : Names) (k : ℕ) (os : List Opened) where
  pub opened_more :
      (o : Opened) → AreOpenedBelow s code names k os → k < s.shape.nodes → IsSeated s code names k (seated_of o) →
      AreOpenedBelow s code names (k + 1) (os ++ o ∷ [])
  opened_more o below within seated =
      let count : length os ≡ min k s.shape.nodes = below.count in
      let more : length (os ++ o ∷ []) ≡ length os + 1 = length-append os (o ∷ []) in
      record {
        count = omega arith;
        each = λ i x at. elim (last_or_before os o i x at) [
          | inl a ↦ below.each i x a
          | inr b ↦ (
              let here : i ≡ k = omega (arith, b.0) in
              subst (λ j. IsSeated s code names j (seated_of x)) (sym here)
              (subst (λ (z : Opened). IsSeated s code names k (seated_of z)) b.1 seated))
        ];
      }

  -- past the last node there are no more
  pub opened_same : AreOpenedBelow s code names k os → s.shape.nodes ≤ k → AreOpenedBelow s code names (k + 1) os
  opened_same below past = record {
    count = let count : length os ≡ min k s.shape.nodes = below.count in omega arith;
    each = below.each;
  }

pub opened_none : (s : Setup) (code : Code) (names : Names) → AreOpenedBelow s code names 0 []
opened_none s code names = record { count = omega arith; each = λ i o at. absurd cc }
