-- Names and values, one pair after another.
use Rattle.std.proofs.Common.{◌≡◌, ℕ, zero, suc, List, [], ◌∷◌, ◌++◌, Some, None, drop, refl, append_assoc}
use Rattle.std.specs.Prelude.{slice_get}
use Rattle.std.proofs.lemmas.List.{append-nil}
use Rattle.tw_base.specs.declared.name.Name.{Name}
use Rattle.tw_base.specs.declared.value.Value.{Value}
use Rattle.teapot_meaning.specs.declared.state.Bound.{Bound}
use Rattle.teapot_meaning.specs.Does.{bound}

pub drop_at : {X : Type 0} (xs : List X) (i : ℕ) (x : X) → slice_get xs i ≡ Some x → drop i xs ≡ x ∷ drop (suc i) xs
drop_at [] i x h = cc
drop_at (y ∷ ys) zero x h = cc
drop_at (y ∷ ys) (suc i) x h = drop_at ys i x h

pub drop_past : {X : Type 0} (xs : List X) (i : ℕ) → slice_get xs i ≡ None → drop i xs ≡ []
drop_past [] zero h = refl
drop_past [] (suc i) h = refl
drop_past (y ∷ ys) zero h = cc
drop_past (y ∷ ys) (suc i) h = drop_past ys i h

pub bound_more : (names names' : List Name) (values values' : List Value) (vars new all : List Bound) (n : Name) (v : Value) →
    names ≡ n ∷ names' → values ≡ v ∷ values' → new ≡ vars ++ record { name = n; value = v } ∷ [] →
    vars ++ bound names values ≡ all → new ++ bound names' values' ≡ all
bound_more names names' values values' vars new all n v e f g h =
    let k : vars ++ bound (n ∷ names') (v ∷ values') ≡ all = rw (e, f) at h in
    rw (g, append_assoc) k

bound-nil : (names : List Name) → bound names [] ≡ []
bound-nil [] = refl
bound-nil (n ∷ names) = refl

pub bound_done : (names : List Name) (values : List Value) (vars all : List Bound) → values ≡ [] →
    vars ++ bound names values ≡ all → vars ≡ all
bound_done names values vars all e h = rw (e, bound-nil, append-nil) at h
