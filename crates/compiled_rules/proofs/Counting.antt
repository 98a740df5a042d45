-- Counts of what stands in a list once.
use Rattle.std.proofs.Common.{◌≡◌, ◌∙◌, ℕ, zero, suc, ◌+◌, ◌<◌, Bool, true, false, List, [], ◌∷◌, Some, refl, ap, sym, subst}
use Rattle.std.proofs.Common.{arith, drop, take}
use Rattle.std.specs.Prelude.{cond, count_by, slice_get, ◌||◌}
use Rattle.std.specs.List.{list_any}
use Rattle.std.proofs.lemmas.List.Recursion.{is_count_by}
use Rattle.teapot_meaning.proofs.Found.{is_false}

abbrev counted : {X : Type 0} → (X → Bool) → List X → ℕ
counted f [] = 0
counted f (x ∷ xs) = cond (f x) (1 + counted f xs) (counted f xs)

counted-is : {X : Type 0} (f : X → Bool) (xs : List X) → counted f xs ≡ count_by f xs
counted-is f xs = is_count_by (counted f) f refl (λ y ys. refl) xs

counted_none : {X : Type 0} (f : X → Bool) (xs : List X) → ((j : ℕ) (y : X) → slice_get xs j ≡ Some y → f y ≡ true → ⊥) →
    counted f xs ≡ 0
counted_none f [] g = refl
counted_none f (x ∷ xs) g =
    let never : f x ≡ false = is_false (f x) (λ e. g 0 x refl e) in
    ap (λ b. cond b (1 + counted f xs) (counted f xs)) never ∙ counted_none f xs (λ j y e. g (suc j) y e)

counted_one : {X : Type 0} (f : X → Bool) (xs : List X) (i : ℕ) (x : X) → slice_get xs i ≡ Some x → f x ≡ true →
    ((j : ℕ) (y : X) → slice_get xs j ≡ Some y → f y ≡ true → j ≡ i) → counted f xs ≡ 1
counted_one f [] i x e t g = cc
counted_one f (y ∷ xs) zero x e t g =
    let same : x ≡ y = cc in
    let always : f y ≡ true = subst (λ z. f z ≡ true) same t in
    let none = counted_none f xs (λ j z h u. let w = g (suc j) z h u in omega arith) in
    ap (λ b. cond b (1 + counted f xs) (counted f xs)) always ∙ ap (λ n. 1 + n) none
counted_one f (y ∷ xs) (suc i) x e t g =
    let never : f y ≡ false = is_false (f y) (λ u. let w = g 0 y refl u in omega arith) in
    let one = counted_one f xs i x e t (λ j z h u. let w = g (suc j) z h u in omega arith) in
    ap (λ b. cond b (1 + counted f xs) (counted f xs)) never ∙ one

pub count_one : {X : Type 0} (f : X → Bool) (xs : List X) (i : ℕ) (x : X) → slice_get xs i ≡ Some x → f x ≡ true →
    ((j : ℕ) (y : X) → slice_get xs j ≡ Some y → f y ≡ true → j ≡ i) → count_by f xs ≡ 1
count_one f xs i x e t g = sym (counted-is f xs) ∙ counted_one f xs i x e t g

pub any_none : {X : Type 0} (f : X → Bool) (xs : List X) → ((j : ℕ) (y : X) → slice_get xs j ≡ Some y → f y ≡ true → ⊥) →
    list_any f xs ≡ false
any_none f [] g = refl
any_none f (x ∷ xs) g =
    let never : f x ≡ false = is_false (f x) (λ e. g 0 x refl e) in
    ap (λ b. b || list_any f xs) never ∙ any_none f xs (λ j y e. g (suc j) y e)

-- ---- a part of a list

nothing : {X : Type 0} (n : ℕ) (j : ℕ) (x : X) → slice_get (drop n []) j ≡ Some x → ⊥
nothing zero j x e = cc
nothing (suc n) j x e = cc

pub drop_get : {X : Type 0} (xs : List X) (n j : ℕ) (x : X) → slice_get (drop n xs) j ≡ Some x → slice_get xs (n + j) ≡ Some x
drop_get xs zero j x e = let z : j ≡ 0 + j = omega arith in subst (λ k. slice_get xs k ≡ Some x) z e
drop_get [] (suc n) j x e = absurd (nothing (suc n) j x e)
drop_get (y ∷ xs) (suc n) j x e =
    let z : suc (n + j) ≡ suc n + j = omega arith in
    subst (λ k. slice_get (y ∷ xs) k ≡ Some x) z (drop_get xs n j x e)

pub get_drop : {X : Type 0} (xs : List X) (n j : ℕ) (x : X) → slice_get xs (n + j) ≡ Some x → slice_get (drop n xs) j ≡ Some x
get_drop xs zero j x e = let z : 0 + j ≡ j = omega arith in subst (λ k. slice_get xs k ≡ Some x) z e
get_drop [] (suc n) j x e = cc
get_drop (y ∷ xs) (suc n) j x e =
    let z : suc n + j ≡ suc (n + j) = omega arith in
    get_drop xs n j x (subst (λ k. slice_get (y ∷ xs) k ≡ Some x) z e)

pub take_get : {X : Type 0} (xs : List X) (m j : ℕ) (x : X) → slice_get (take m xs) j ≡ Some x →
    (j < m) × (slice_get xs j ≡ Some x)
take_get xs zero j x e = absurd (none xs j x e)
  where
    none : {Y : Type 0} (ys : List Y) (i : ℕ) (y : Y) → slice_get (take 0 ys) i ≡ Some y → ⊥
    none [] i y e = cc
    none (z ∷ ys) i y e = cc
take_get [] (suc m) j x e = cc
take_get (y ∷ xs) (suc m) zero x e = (omega arith, e)
take_get (y ∷ xs) (suc m) (suc j) x e = let k = take_get xs m j x e in let l = k.0 in (omega arith, k.1)

pub get_take : {X : Type 0} (xs : List X) (m j : ℕ) (x : X) → j < m → slice_get xs j ≡ Some x → slice_get (take m xs) j ≡ Some x
get_take xs zero j x l e = absurd (omega arith)
get_take [] (suc m) j x l e = cc
get_take (y ∷ xs) (suc m) zero x l e = e
get_take (y ∷ xs) (suc m) (suc j) x l e = get_take xs m j x (omega arith) e
