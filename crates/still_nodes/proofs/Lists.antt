-- Lists: empty ones, an item that is written, and what each item has.
use Rattle.std.proofs.Common.{◌≡◌, ◌∙◌, ℕ, zero, suc, ◌<◌, List, [], ◌∷◌, ◌++◌, Option, Some, None, length, replicate, refl, ap}
use Rattle.std.proofs.Common.{sym, subst, arith, inl, inr}
use Rattle.std.specs.Prelude.{slice_get, slice_set}
use Rattle.std.specs.List.{slice_index_or}
use Rattle.std.proofs.lemmas.Bool.{cases_eq}
use Rattle.std.proofs.lemmas.Option.{same_Some, slice_get_within}
use Rattle.tw_base.specs.Lists.{Each}
use Rattle.still_meaning.proofs.Passing.{set_here, set_other}

pub left_empty : {X : Type 0} (xs ys : List X) → xs ++ ys ≡ [] → xs ≡ []
left_empty [] ys h = refl
left_empty (x ∷ xs) ys h = absurd cc

pub right_empty : {X : Type 0} (xs ys : List X) → xs ++ ys ≡ [] → ys ≡ []
right_empty [] ys h = h
right_empty (x ∷ xs) ys h = absurd cc

pub first_rest : {X : Type 0} (xs : List X) (x : X) → slice_get xs 0 ≡ Some x → (rest : List X) × (xs ≡ x ∷ rest)
first_rest [] x h = absurd cc
first_rest (y ∷ xs) x h = (xs, ap (λ z. z ∷ xs) (same_Some y x h))

pub no_first : {X : Type 0} (xs : List X) → None ≡ slice_get xs 0 → xs ≡ []
no_first [] h = refl
no_first (x ∷ xs) h = absurd cc

pub present : {X : Type 0} (xs : List X) (i : ℕ) → i < length xs → (x : X) × (slice_get xs i ≡ Some x)
present [] i l = absurd (omega arith)
present (x ∷ xs) zero l = (x, refl)
present (x ∷ xs) (suc i) l = present xs i (omega arith)

pub each_get : {X : Type 0} (P : X → Type 0) (xs : List X) (i : ℕ) (d : X) → Each P xs → i < length xs → P (slice_index_or xs i d)
each_get P [] i d h l = absurd (omega arith)
each_get P (x ∷ xs) zero d h l = h.0
each_get P (x ∷ xs) (suc i) d h l = each_get P xs i d h.1 (omega arith)

pub each_set : {X : Type 0} (P : X → Type 0) (xs : List X) (i : ℕ) (x : X) → Each P xs → P x → Each P (slice_set xs i x)
each_set P [] i x h p = tt
each_set P (y ∷ xs) zero x h p = (p, h.1)
each_set P (y ∷ xs) (suc i) x h p = (h.0, each_set P xs i x h.1 p)

pub set_as : {X Y : Type 0} (xs : List X) (i : ℕ) (old new : X) (f : Option X → Y) → slice_get xs i ≡ Some old →
    f (Some new) ≡ f (Some old) → (k : ℕ) → f (slice_get (slice_set xs i new) k) ≡ f (slice_get xs k)
set_as {X} xs i old new f there same k = elim (cases_eq k i) [
  | inl q ↦
      ap (λ j. f (slice_get (slice_set xs i new) j)) q
      ∙ ap (λ (o : Option X). f o) (set_here xs i new (slice_get_within xs i old there))
      ∙ same
      ∙ sym (ap (λ (o : Option X). f o) there)
      ∙ sym (ap (λ j. f (slice_get xs j)) q)
  | inr d ↦ ap (λ (o : Option X). f o) (set_other xs i k new d)
]

pub set_twice : {X : Type 0} (xs : List X) (i : ℕ) (a b : X) → slice_set (slice_set xs i a) i b ≡ slice_set xs i b
set_twice [] i a b = refl
set_twice (x ∷ xs) zero a b = refl
set_twice (x ∷ xs) (suc i) a b = ap (λ ys. x ∷ ys) (set_twice xs i a b)

pub at_end : {X : Type 0} (xs : List X) (x : X) → slice_get (xs ++ x ∷ []) (length xs) ≡ Some x
at_end [] x = refl
at_end (y ∷ xs) x = at_end xs x

pub push_each : {X : Type 0} (P : ℕ → X → Type 0) (xs : List X) (x : X) → ((i : ℕ) (y : X) → slice_get xs i ≡ Some y → P i y) →
    P (length xs) x → (i : ℕ) (y : X) → slice_get (xs ++ x ∷ []) i ≡ Some y → P i y
push_each P [] x h p zero y e = subst (λ z. P 0 z) (same_Some x y e) p
push_each P [] x h p (suc i) y e = absurd cc
push_each P (z ∷ xs) x h p zero y e = h zero y e
push_each P (z ∷ xs) x h p (suc i) y e = push_each (λ j w. P (suc j) w) xs x (λ j. h (suc j)) p i y e

pub each_replicate : {X : Type 0} (P : X → Type 0) (n : ℕ) (x : X) → P x → Each P (replicate n x)
each_replicate P zero x h = tt
each_replicate P (suc n) x h = (h, each_replicate P n x h)

pub index_replicate : {X : Type 0} (n i : ℕ) (x d : X) (P : X → Type 0) → P x → P d → P (slice_index_or (replicate n x) i d)
index_replicate zero i x d P h k = k
index_replicate (suc n) zero x d P h k = h
index_replicate (suc n) (suc i) x d P h k = index_replicate n i x d P h k
