-- Variables and slots.
use Rattle.std.proofs.Common.{◌≡◌, ℕ, zero, suc, ◌+◌, ◌<◌, ◌≤◌, List, [], ◌∷◌, length, Option, Some, None, Bool, true, false}
use Rattle.std.proofs.Common.{refl, sym, ap, subst, arith, ◌∙◌}
use Rattle.std.specs.Prelude.{slice_get, slice_set, cond, nat_lt, not}
use Rattle.std.specs.List.{prefix_len, position_or_len}
use Rattle.std.specs.Str.{bytes_eq}
use Rattle.std.proofs.lemmas.Slice.Eq.{bytes_eq-Decides}
use Rattle.std.proofs.lemmas.List.Folds.{find_at}
use Rattle.std.proofs.lemmas.Option.{slice_get_past}
use Rattle.std.proofs.lemmas.Bool.{ltb-true, ltb-false}
use Rattle.tw_base.specs.declared.name.Name.{Name}
use Rattle.tw_base.specs.declared.value.Value.{Value}
use Rattle.teapot_tree.specs.declared.protocol.Protocol.{Protocol}
use Rattle.teapot_meaning.specs.Names.{info_number}
use Rattle.teapot_meaning.specs.declared.state.Bound.{Bound}
use Rattle.teapot_meaning.specs.declared.state.Running.{Running}
use Rattle.teapot_meaning.specs.Steps.{place_of}
use Rattle.teapot_meaning.specs.Values.{bound_in, info_at, variable, variable_or}
use Rattle.compiled_meaning.specs.Follows.{slot_of}
use Rattle.handler_code.specs.Machine.{value_at}
use Rattle.compiled_meaning.specs.Stands.{names_of, values_of}

prefix_of_names : (t : Name → Bool) (vars : List Bound) → prefix_len (λ b. not (t b.name)) vars
    ≡ prefix_len (λ n. not (t n)) (names_of vars)
prefix_of_names t [] = refl
prefix_of_names t (b ∷ vars) = ap (λ n. cond (not (t b.name)) (1 + n) 0) (prefix_of_names t vars)

pub length_of_names : (vars : List Bound) → length vars ≡ length (names_of vars)
length_of_names [] = refl
length_of_names (b ∷ vars) = ap suc (length_of_names vars)

-- a variable's slot is its place
pub slot-place : (name : Name) (vars : List Bound) → place_of name vars ≡ slot_of (names_of vars) name
slot-place name vars =
    ap (λ n. cond (nat_lt n (length vars)) (Some n) None) (prefix_of_names (λ n. bytes_eq n name) vars)
    ∙ ap (λ n. cond (nat_lt (prefix_len (λ n. not (bytes_eq n name)) (names_of vars)) n)
    (Some (prefix_len (λ n. not (bytes_eq n name)) (names_of vars))) None) (length_of_names vars)

found_by : (t : Bool) (n k : ℕ) → cond t (Some n) None ≡ Some k → n ≡ k
found_by true n k e = cc
found_by false n k e = cc

lost_by : (n m : ℕ) (t : Bool) → nat_lt n m ≡ t → cond t (Some n) None ≡ None → m ≤ n
lost_by n m true h e = cc
lost_by n m false h e = ltb-false n m h

pub not_past : {A : Type 0} (xs : List A) (k : ℕ) → k < length xs → slice_get xs k ≡ None → ⊥
not_past [] k lt e = omega arith
not_past (x ∷ xs) zero lt e = cc
not_past (x ∷ xs) (suc k) lt e = not_past xs k (omega arith) e

-- what stands at a variable's place
pub bound_at : (vars : List Bound) (name : Name) (k : ℕ) → place_of name vars ≡ Some k → bound_in vars name ≡ slice_get vars k
bound_at vars name k e =
    let n : position_or_len (λ b. bytes_eq b.name name) vars ≡ k =
    found_by (nat_lt (position_or_len (λ b. bytes_eq b.name name) vars) (length vars)) _ k e in
    find_at (λ b. bytes_eq b.name name) vars ∙ ap (slice_get vars) n

pub bound_nowhere : (vars : List Bound) (name : Name) → place_of name vars ≡ None → bound_in vars name ≡ None
bound_nowhere vars name e =
    let n : length vars ≤ position_or_len (λ b. bytes_eq b.name name) vars =
    lost_by (position_or_len (λ b. bytes_eq b.name name) vars) (length vars)
    (nat_lt (position_or_len (λ b. bytes_eq b.name name) vars) (length vars)) refl e in
    find_at (λ b. bytes_eq b.name name) vars ∙ slice_get_past vars _ n

within_by : (n m k : ℕ) (t : Bool) → nat_lt n m ≡ t → cond t (Some n) None ≡ Some k → k < m
within_by n m k true h e = let lt : n < m = ltb-true n m h in let same : n ≡ k = cc in subst (λ i. i < m) same lt
within_by n m k false h e = cc

pub place_within : (vars : List Bound) (name : Name) (k : ℕ) → place_of name vars ≡ Some k → k < length vars
place_within vars name k e = within_by (position_or_len (λ b. bytes_eq b.name name) vars) (length vars) k
    (nat_lt (position_or_len (λ b. bytes_eq b.name name) vars) (length vars)) refl e

set_names : (name : Name) (x : Value) (vars : List Bound) → names_of
    (slice_set vars (position_or_len (λ b. bytes_eq b.name name) vars) (record { name = name; value = x })) ≡ names_of vars
set_names name x [] = refl
set_names name x (b ∷ vars) = by_test (set_names name x vars) (bytes_eq b.name name) refl
  where
    by_test : names_of (slice_set vars (position_or_len (λ b. bytes_eq b.name name) vars) (record { name = name; value = x }))
        ≡ names_of vars → (t : Bool) → bytes_eq b.name name ≡ t →
        names_of (slice_set (b ∷ vars) (cond (not t) (1 + position_or_len (λ b. bytes_eq b.name name) vars) 0)
        (record { name = name; value = x })) ≡ names_of (b ∷ vars)
    by_test ih true h = ap (λ n. n ∷ names_of vars) (sym ((bytes_eq-Decides b.name name).0 h))
    by_test ih false h =
        let one : suc (position_or_len (λ b. bytes_eq b.name name) vars)
        ≡ 1 + position_or_len (λ b. bytes_eq b.name name) vars = omega arith in
        subst (λ i. names_of (slice_set (b ∷ vars) i (record { name = name; value = x })) ≡ names_of (b ∷ vars)) one
        (ap (λ l. b.name ∷ l) ih)

-- writing a variable keeps the names
pub names-set : (vars : List Bound) (name : Name) (k : ℕ) (x : Value) → place_of name vars ≡ Some k →
    names_of (slice_set vars k (record { name = name; value = x })) ≡ names_of vars
names-set vars name k x e =
    let n : position_or_len (λ b. bytes_eq b.name name) vars ≡ k =
    found_by (nat_lt (position_or_len (λ b. bytes_eq b.name name) vars) (length vars)) _ k e in
    subst (λ i. names_of (slice_set vars i (record { name = name; value = x })) ≡ names_of vars) n (set_names name x vars)

-- the values at places
pub value-place : (vars : List Bound) (k : ℕ) (b : Bound) → slice_get vars k ≡ Some b → value_at (values_of vars) k ≡ b.value
value-place [] k b e = cc
value-place (a ∷ vars) zero b e = let same : a ≡ b = cc in ap (λ c. c.value) same
value-place (a ∷ vars) (suc k) b e = value-place vars k b e

-- reading a variable
pub variable-slot : (p : Protocol) (r : Running) (name : Name) (k : ℕ) → slot_of (names_of r.vars) name ≡ Some k →
    variable p r name ≡ value_at (values_of r.vars) k
unfolding variable
variable-slot p r name k e =
    let place : place_of name r.vars ≡ Some k = slot-place name r.vars ∙ e in
    by_bound (slice_get r.vars k) refl (bound_at r.vars name k place)
  where
    by_bound : (o : Option Bound) → slice_get r.vars k ≡ o → bound_in r.vars name ≡ slice_get r.vars k →
        variable_or (bound_in r.vars name) (info_at r.here.infos (info_number p name)) ≡ value_at (values_of r.vars) k
    by_bound (Some b) g h =
        ap (λ o. variable_or o (info_at r.here.infos (info_number p name))) (h ∙ g) ∙ sym (value-place r.vars k b g)
    by_bound None g h = absurd (not_past r.vars k (place_within r.vars name k (slot-place name r.vars ∙ e)) g)

pub variable-info : (p : Protocol) (r : Running) (name : Name) → slot_of (names_of r.vars) name ≡ None →
    variable p r name ≡ info_at r.here.infos (info_number p name)
unfolding variable
variable-info p r name e =
    ap (λ o. variable_or o (info_at r.here.infos (info_number p name))) (bound_nowhere r.vars name (slot-place name r.vars ∙ e))

-- values after a write
pub value_set-same : (xs : List Value) (k : ℕ) (x : Value) → k < length xs → value_at (slice_set xs k x) k ≡ x
value_set-same [] k x lt = absurd (omega arith)
value_set-same (y ∷ xs) zero x lt = refl
value_set-same (y ∷ xs) (suc k) x lt = value_set-same xs k x (omega arith)

pub value_set-other : (xs : List Value) (k j : ℕ) (x : Value) → (k ≡ j → ⊥) → value_at (slice_set xs k x) j ≡ value_at xs j
value_set-other [] k j x h = refl
value_set-other (y ∷ xs) zero zero x h = absurd (h refl)
value_set-other (y ∷ xs) zero (suc j) x h = refl
value_set-other (y ∷ xs) (suc k) zero x h = refl
value_set-other (y ∷ xs) (suc k) (suc j) x h = value_set-other xs k j x (λ e. h (ap suc e))

pub values-set : (vars : List Bound) (k : ℕ) (b : Bound) → values_of (slice_set vars k b) ≡ slice_set (values_of vars) k b.value
values-set [] k b = refl
values-set (a ∷ vars) zero b = refl
values-set (a ∷ vars) (suc k) b = ap (λ l. a.value ∷ l) (values-set vars k b)

pub length-values : (vars : List Bound) → length (values_of vars) ≡ length vars
length-values [] = refl
length-values (b ∷ vars) = ap suc (length-values vars)

pub length_set : {A : Type 0} (xs : List A) (k : ℕ) (x : A) → length (slice_set xs k x) ≡ length xs
length_set [] k x = refl
length_set (y ∷ xs) zero x = refl
length_set (y ∷ xs) (suc k) x = ap suc (length_set xs k x)
