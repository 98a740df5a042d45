-- What is found in a list.
use Rattle.std.proofs.Common.{◌≡◌, ℕ, zero, suc, ◌+◌, ◌<◌, Bool, true, false, not, List, [], ◌∷◌, ◌++◌, Some, None, length}
use Rattle.std.proofs.Common.{get_or, refl, ap, sym, subst, arith, inl, inr}
use Rattle.std.specs.Prelude.{cond, find, position, slice_get, nat_lt, ◌&&◌, Contains}
use Rattle.std.specs.List.{flat_map, prefix_len}
use Rattle.std.proofs.lemmas.Bool.Decides.{Decides-ltb}
use Rattle.std.proofs.lemmas.Option.{slice_get_within, get_or_from_slice_get}
use Rattle.tw_base.specs.Lists.{Each}
use Rattle.teapot_tree.specs.Rules.{Any}

-- ---- truth values

pub both : (a b : Bool) → a ≡ true → b ≡ true → a && b ≡ true
both true b e f = f
both false b e f = e

pub first_of_both : (a b : Bool) → a && b ≡ true → a ≡ true
first_of_both true b e = refl
first_of_both false b e = e

pub second_of_both : (a b : Bool) → a && b ≡ true → b ≡ true
second_of_both true b e = e
second_of_both false b e = cc

pub is_false : (b : Bool) → (b ≡ true → ⊥) → b ≡ false
is_false true never = absurd (never refl)
is_false false never = refl

pub not_true : (b : Bool) → b ≡ false → not b ≡ true
not_true true e = cc
not_true false e = refl

pub not_false : (b : Bool) → not b ≡ true → b ≡ false
not_false true e = cc
not_false false e = refl

-- ---- by a test

one_more : (k : ℕ) → 1 + k ≡ suc k
one_more k = omega arith

at_found : {X : Type 0} (t : X → Bool) (xs : List X) (x : X) → find t xs ≡ Some x →
    slice_get xs (prefix_len (λ y. not (t y)) xs) ≡ Some x
at_found t [] x e = cc
at_found t (y ∷ ys) x e = by_test (t y) e (at_found t ys x)
  where
    by_test : (b : Bool) → cond b (Some y) (find t ys) ≡ Some x →
        (find t ys ≡ Some x → slice_get ys (prefix_len (λ z. not (t z)) ys) ≡ Some x) →
        slice_get (y ∷ ys) (cond (not b) (1 + prefix_len (λ z. not (t z)) ys) 0) ≡ Some x
    by_test true e f = e
    by_test false e f = rw (one_more (prefix_len (λ z. not (t z)) ys)) (f e)

pub place_found : {X : Type 0} (t : X → Bool) (xs : List X) (x : X) → find t xs ≡ Some x →
    (k : ℕ) × (position t xs ≡ Some k) × (slice_get xs k ≡ Some x)
place_found t xs x e =
    let k = prefix_len (λ y. not (t y)) xs in
    let at = at_found t xs x e in
    let here : nat_lt k (length xs) ≡ true = (Decides-ltb k (length xs)).1 (slice_get_within xs k x at) in
    (k, ap (λ b. cond b (Some k) None) here, at)

all_past : {X : Type 0} (t : X → Bool) (xs : List X) → find t xs ≡ None → prefix_len (λ y. not (t y)) xs ≡ length xs
all_past t [] e = refl
all_past t (y ∷ ys) e = by_test (t y) e (all_past t ys)
  where
    by_test : (b : Bool) → cond b (Some y) (find t ys) ≡ None →
        (find t ys ≡ None → prefix_len (λ z. not (t z)) ys ≡ length ys) →
        cond (not b) (1 + prefix_len (λ z. not (t z)) ys) 0 ≡ suc (length ys)
    by_test true e f = cc
    by_test false e f = omega (arith, f e)

pub no_place : {X : Type 0} (t : X → Bool) (xs : List X) → find t xs ≡ None → position t xs ≡ None
no_place t xs e =
    let k = prefix_len (λ y. not (t y)) xs in
    let all = all_past t xs e in
    let past : nat_lt k (length xs) ≡ false =
    is_false _ (λ h. let lt = (Decides-ltb k (length xs)).0 h in absurd (omega (arith, lt, all))) in
    ap (λ b. cond b (Some k) None) past

pub find_holds : {X : Type 0} (t : X → Bool) (xs : List X) (x : X) → find t xs ≡ Some x → t x ≡ true
find_holds t [] x e = cc
find_holds t (y ∷ ys) x e = by_test (t y) refl e (find_holds t ys x)
  where
    by_test : (b : Bool) → t y ≡ b → cond b (Some y) (find t ys) ≡ Some x → (find t ys ≡ Some x → t x ≡ true) → t x ≡ true
    by_test true h e more = let same : y ≡ x = cc in subst (λ z. t z ≡ true) same h
    by_test false h e more = more e

-- ---- members

pub slice_has : {X : Type 0} (xs : List X) (k : ℕ) (x : X) → slice_get xs k ≡ Some x → Contains xs x
slice_has xs k x e = (k, slice_get_within xs k x e, get_or_from_slice_get xs k x x e)

pub find_has : {X : Type 0} (t : X → Bool) (xs : List X) (x : X) → find t xs ≡ Some x → Contains xs x
find_has t xs x e = let f = place_found t xs x e in slice_has xs f.0 x f.2

pub any_at : {X : Type 0} (P : X → Type 0) (xs : List X) (x : X) → Contains xs x → P x → Any P xs
any_at {X = X} P xs x c h = by_place xs c.0 c.1 c.2
  where
    by_place : (ys : List X) (k : ℕ) → k < length ys → get_or ys k x ≡ x → Any P ys
    by_place [] k lt e = absurd (omega arith)
    by_place (y ∷ ys) zero lt e = inl (subst P (sym e) h)
    by_place (y ∷ ys) (suc k) lt e = inr (by_place ys k (omega arith) e)

pub each_at : {X : Type 0} (P : X → Type 0) (xs : List X) (x : X) → Contains xs x → Each P xs → P x
each_at {X = X} P xs x c h = by_place xs c.0 c.1 c.2 h
  where
    by_place : (ys : List X) (k : ℕ) → k < length ys → get_or ys k x ≡ x → Each P ys → P x
    by_place [] k lt e h = absurd (omega arith)
    by_place (y ∷ ys) zero lt e h = subst P e h.0
    by_place (y ∷ ys) (suc k) lt e h = by_place ys k (omega arith) e h.1

pub each_left : {X : Type 0} (P : X → Type 0) (xs ys : List X) → Each P (xs ++ ys) → Each P xs
each_left P [] ys h = tt
each_left P (x ∷ xs) ys h = (h.0, each_left P xs ys h.1)

pub each_right : {X : Type 0} (P : X → Type 0) (xs ys : List X) → Each P (xs ++ ys) → Each P ys
each_right P [] ys h = h
each_right P (x ∷ xs) ys h = each_right P xs ys h.1

pub each_both : {X : Type 0} (P : X → Type 0) (xs ys : List X) → Each P xs → Each P ys → Each P (xs ++ ys)
each_both P [] ys h k = k
each_both P (x ∷ xs) ys h k = (h.0, each_both P xs ys h.1 k)

pub each_flat : {X Y : Type 0} (P : Y → Type 0) (f : X → List Y) (xs : List X) (x : X) → Contains xs x →
    Each P (flat_map f xs) → Each P (f x)
each_flat {X = X} {Y = Y} P f xs x c h = by_place xs c.0 c.1 c.2 h
  where
    by_place : (ys : List X) (k : ℕ) → k < length ys → get_or ys k x ≡ x → Each P (flat_map f ys) → Each P (f x)
    by_place [] k lt e h = absurd (omega arith)
    by_place (y ∷ ys) zero lt e h = subst (λ z. Each P (f z)) e (each_left P (f y) (flat_map f ys) h)
    by_place (y ∷ ys) (suc k) lt e h = by_place ys k (omega arith) e (each_right P (f y) (flat_map f ys) h)
