-- The ends of all nodes stay those of the wires where one node's ends do.
use Rattle.std.proofs.Common.{◌≡◌, ◌∙◌, ◌<◌, ℕ, zero, suc, List, [], ◌∷◌, Option, Some, length, map, set, get_or, slice_get}
use Rattle.std.proofs.Common.{refl, arith, ap, sym, subst, length-set}
use Rattle.std.proofs.lemmas.List.{length-map, map-set}
use Rattle.std.proofs.lemmas.Option.{slice_get_read, slice_get-map}
use Rattle.std.specs.Option.{option_map}
use Rattle.tw_wire.specs.declared.ends.Ends.{Ends}
use Rattle.tw_wire.specs.Lending.{shown}
use Rattle.tw_wire.specs.Places.{Names}
use Rattle.tw_wire.specs.Wires.{AreAllEnds, AreEndsOf, AreNames, AreNew}
use Rattle.tw_wire_tests.specs.Tied.{AreTied}

-- what holds of each item and of the one that replaces one
kept : {A : Type 0} (P : ℕ → A → Type 0) (xs : List A) (k : ℕ) (y : A) → P k y
    → ((j : ℕ) (x : A) → slice_get xs j ≡ Some x → P j x) → (j : ℕ) (x : A) → slice_get (set xs k y) j ≡ Some x → P j x
kept P [] k y here all j x is = absurd cc
kept P (z ∷ xs) zero y here all zero x is = let e : y ≡ x = cc in subst (P zero) e here
kept P (z ∷ xs) zero y here all (suc j) x is = all (suc j) x is
kept P (z ∷ xs) (suc k) y here all zero x is = all zero x is
kept P (z ∷ xs) (suc k) y here all (suc j) x is =
    kept (λ i. P (suc i)) xs k y here (λ i w at. all (suc i) w at) j x is

pub tied-count : (names : Names) (ends : List Ends) → AreTied names ends → length ends ≡ length names
tied-count names ends h = sym (length-map ends shown) ∙ h.each.0

-- the ends of one node, by its number
pub tied-at : (names : Names) (ends : List Ends) (me k : ℕ) (e : Ends) → AreTied names ends → k ≡ me → me < length names
    → e ≡ get_or ends k e → AreEndsOf (length names) names me (shown e)
tied-at names ends me k e h same within at =
    let count : length ends ≡ length names = tied-count names ends h in
    let place : k < length ends = omega arith in
    let here : slice_get ends k ≡ Some e = slice_get_read ends (length ends) k e refl place at in
    let seen : slice_get (map shown ends) k ≡ Some (shown e) =
    slice_get-map shown ends k ∙ ap (λ (o : Option Ends). option_map shown o) here in
    h.each.1 me (shown e) (subst (λ j. slice_get (map shown ends) j ≡ Some (shown e)) same seen)

pub tied-set : (names : Names) (ends : List Ends) (me k : ℕ) (e : Ends) → AreTied names ends → k ≡ me
    → AreEndsOf (length names) names me (shown e) → AreTied names (set ends k e)
tied-set names ends me k e h same here = record {
  rows = h.rows;
  each = rw (map-set shown ends k e) (
    length-set (map shown ends) k (shown e) ∙ h.each.0,
    kept (λ j x. AreEndsOf (length names) names j x) (map shown ends) k (shown e)
        (subst (λ j. AreEndsOf (length names) names j (shown e)) (sym same) here) h.each.1,
  );
}

-- new wires have their ends
pub tied-new : (n : ℕ) (names : Names) (ends : List Ends) → AreNew n names (map shown ends)
    → (length names ≡ n) × AreTied names ends
tied-new n names ends h =
    let rows = sym h.wires.rows in (
      h.wires.rows,
      record {
        rows = subst (λ k. AreNames k names) rows h.wires;
        each = subst (λ k. AreAllEnds k names (map shown ends)) rows (h.count, λ k e at. (h.each k e at).0);
      },
    )
