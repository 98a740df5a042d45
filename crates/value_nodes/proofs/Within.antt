-- Values within a bound, and lists of them.
use Rattle.std.proofs.Common.{◌≡◌, ℕ, zero, suc, ◌+◌, ◌<◌, Bool, true, false, List, [], ◌∷◌, ◌++◌, Option, Some, inl, inr, refl}
use Rattle.std.proofs.Common.{sym, subst, arith, take, drop, reverse}
use Rattle.std.specs.Prelude.{◌⊎◌, if◌then◌else◌, map, slice_get, slice_set, replicate}
use Rattle.std.proofs.lemmas.List.{reverse-append}
use Rattle.tw_base.specs.Lists.{Each}
use Rattle.tw_base.specs.NodeSets.{empty, has, members, members_from, with, without}
use Rattle.tw_base.specs.declared.value.Data.{Data}
use Rattle.tw_base.specs.declared.value.Value.{Value}
use Rattle.tw_base.specs.declared.value.Value.TheVariants as v
use Rattle.teapot_tree.specs.declared.expr.Op.{Op}
use Rattle.teapot_tree.specs.declared.expr.Op.TheVariants as o
use Rattle.teapot_meaning.specs.Depth.{nodes_in}
use Rattle.teapot_meaning.specs.Steps.{least_of, node_of, out_to, set_of}
use Rattle.teapot_meaning.specs.Values.{count_of, not_of, one_of, two_of}
use Rattle.handler_code.specs.Machine.{below, live_values, top, value_at}
use Rattle.value_nodes.specs.Within.{AreWithin, IsSendWithin, IsValueWithin}

-- ---- lists

module _ {X : Type 0} (P : X → Type 0) where
  pub each_append : (xs ys : List X) → Each P xs → Each P ys → Each P (xs ++ ys)
  each_append [] ys h k = k
  each_append (x ∷ xs) ys h k = (h.0, each_append xs ys h.1 k)

  pub each_take : (n : ℕ) (xs : List X) → Each P xs → Each P (take n xs)
  each_take zero xs h = tt
  each_take (suc n) [] h = tt
  each_take (suc n) (x ∷ xs) h = (h.0, each_take n xs h.1)

  pub each_drop : (n : ℕ) (xs : List X) → Each P xs → Each P (drop n xs)
  each_drop zero xs h = h
  each_drop (suc n) [] h = tt
  each_drop (suc n) (x ∷ xs) h = each_drop n xs h.1

  pub each_reverse : (xs : List X) → Each P xs → Each P (reverse xs)
  each_reverse [] h = tt
  each_reverse (x ∷ xs) h =
      subst (Each P) (sym (reverse-append (x ∷ []) xs)) (each_append (reverse xs) (x ∷ []) (each_reverse xs h.1) (h.0, tt))

  pub each_set : (xs : List X) (k : ℕ) (x : X) → P x → Each P xs → Each P (slice_set xs k x)
  each_set [] k x p h = tt
  each_set (y ∷ xs) zero x p h = (p, h.1)
  each_set (y ∷ xs) (suc k) x p h = (h.0, each_set xs k x p h.1)

  pub each_replicate : (n : ℕ) (x : X) → P x → Each P (replicate n x)
  each_replicate zero x p = tt
  each_replicate (suc n) x p = (p, each_replicate n x p)

  pub each_get : (xs : List X) (k : ℕ) (x : X) → Each P xs → slice_get xs k ≡ Some x → P x
  each_get [] k x h e = absurd (cc)
  each_get (y ∷ xs) zero x h e = let same : y ≡ x = cc in subst P same h.0
  each_get (y ∷ xs) (suc k) x h e = each_get xs k x h.1 e

-- ---- sets

has_with : (s : List Bool) (k j : ℕ) → has (with s k) j ≡ true → (has s j ≡ true) ⊎ (j ≡ k)
unfolding has with
has_with [] k j h = inl h
has_with (b ∷ s) zero zero h = inr refl
has_with (b ∷ s) zero (suc j) h = inl h
has_with (b ∷ s) (suc k) zero h = inl h
has_with (b ∷ s) (suc k) (suc j) h =
    elim (has_with s k j h) [ inl here ↦ inl here | inr same ↦ inr (omega arith) ]

has_without : (s : List Bool) (k j : ℕ) → has (without s k) j ≡ true → has s j ≡ true
unfolding has without
has_without [] k j h = h
has_without (b ∷ s) zero zero h = absurd (cc)
has_without (b ∷ s) zero (suc j) h = h
has_without (b ∷ s) (suc k) zero h = h
has_without (b ∷ s) (suc k) (suc j) h = has_without s k j h

none_of : (n j : ℕ) → has (replicate n false) j ≡ true → ⊥
unfolding has
none_of zero j h = cc
none_of (suc n) zero h = cc
none_of (suc n) (suc j) h = none_of n j h

pub empty_within : (n k : ℕ) → has empty k ≡ true → k < n
unfolding empty
empty_within n k h = absurd (none_of 8 k h)

-- the members of a set, counted from j
members_within : (n j m : ℕ) (s : List Bool) → ((k : ℕ) → has s k ≡ true → j + k < n) →
    Each (λ k. k < n) (members_from j (take m s))
unfolding has
members_within n j zero s h = tt
members_within n j (suc m) [] h = tt
members_within n j (suc m) (true ∷ s) h =
    (omega (arith, h zero refl), members_within n (suc j) m s (λ k e. omega (arith, h (suc k) e)))
members_within n j (suc m) (false ∷ s) h = members_within n (suc j) m s (λ k e. omega (arith, h (suc k) e))

pub nodes_within : (n : ℕ) (s : List Bool) → IsValueWithin n (v.Set s) → Each (λ k. k < n) (nodes_in s)
unfolding members
nodes_within n s h = members_within n 0 8 s (λ k e. omega (arith, h k e))

pub without_within : (n k : ℕ) (s : List Bool) → IsValueWithin n (v.Set s) → IsValueWithin n (v.Set (without s k))
without_within n k s h = λ j e. h j (has_without s k j e)

with_within : (n k : ℕ) (s : List Bool) → IsValueWithin n (v.Set s) → k < n → IsValueWithin n (v.Set (with s k))
with_within n k s h lt = λ j e. elim (has_with s k j e) [ inl here ↦ h j here | inr same ↦ omega arith ]

pub set_within : (n : ℕ) (x : Value) → IsValueWithin n x → IsValueWithin n (v.Set (set_of x))
set_within n (v.Set s) h = h
set_within n (v.Int k) h = empty_within n
set_within n (v.Bool b) h = empty_within n
set_within n (v.Node k) h = empty_within n

pub least_within : (n k : ℕ) (s : List Bool) → IsValueWithin n (v.Set s) → least_of s ≡ Some k → k < n
least_within n k s h e = each_get (λ j. j < n) (nodes_in s) 0 k (nodes_within n s h) e

-- ---- values

pub none_within : (n : ℕ) (x : Value) → IsValueWithin 0 x → IsValueWithin n x
none_within n (v.Node k) h = absurd (omega arith)
none_within n (v.Set s) h = λ k e. absurd (omega (arith, h k e))
none_within n (v.Int k) h = tt
none_within n (v.Bool b) h = tt

pub node_within : (n : ℕ) (x : Value) → 0 < n → IsValueWithin n x → node_of x < n
node_within n (v.Node k) some h = h
node_within n (v.Set s) some h = some
node_within n (v.Int k) some h = some
node_within n (v.Bool b) some h = some

pub one_within : (n : ℕ) (x : Value) → IsValueWithin n x → IsValueWithin n (one_of x)
one_within n (v.Node k) h = with_within n k empty (empty_within n) h
one_within n (v.Set s) h = tt
one_within n (v.Int k) h = tt
one_within n (v.Bool b) h = tt

pub not_within : (n : ℕ) (x : Value) → IsValueWithin n (not_of x)
not_within n (v.Node k) = tt
not_within n (v.Set s) = tt
not_within n (v.Int k) = tt
not_within n (v.Bool b) = tt

pub count_within : (n : ℕ) (x : Value) → IsValueWithin n (count_of x)
count_within n (v.Node k) = tt
count_within n (v.Set s) = tt
count_within n (v.Int k) = tt
count_within n (v.Bool b) = tt

pub two_within : (n : ℕ) (op : Op) (a b : Value) → IsValueWithin n a → IsValueWithin n b → IsValueWithin n (two_of op a b)
two_within n o.With (v.Set s) (v.Node k) h g = with_within n k s h g
two_within n o.Without (v.Set s) (v.Node k) h g = without_within n k s h
two_within n o.Add (v.Int a) (v.Int b) h g = tt
two_within n o.Sub (v.Int a) (v.Int b) h g = tt
two_within n o.Lt (v.Int a) (v.Int b) h g = tt
two_within n o.Le (v.Int a) (v.Int b) h g = tt
two_within n o.And (v.Bool a) (v.Bool b) h g = tt
two_within n o.Or (v.Bool a) (v.Bool b) h g = tt
two_within n o.Has (v.Set a) (v.Node b) h g = tt
two_within n _ _ _ h g = tt

-- ---- the stack and the slots

pub top_within : (n : ℕ) (xs : List Value) → AreWithin n xs → IsValueWithin n (top xs)
top_within n [] h = tt
top_within n (x ∷ xs) h = h.0

pub below_within : (n : ℕ) (xs : List Value) → AreWithin n xs → AreWithin n (below xs)
below_within n [] h = tt
below_within n (x ∷ xs) h = h.1

pub at_within : (n : ℕ) (xs : List Value) (k : ℕ) → AreWithin n xs → IsValueWithin n (value_at xs k)
at_within n [] k h = tt
at_within n (x ∷ xs) zero h = h.0
at_within n (x ∷ xs) (suc k) h = at_within n xs k h.1

pub live_within : (n : ℕ) (live : ℕ → Bool) (k : ℕ) (xs : List Value) → AreWithin n xs → AreWithin n (live_values live k xs)
live_within n live k [] h = tt
live_within n live k (x ∷ xs) h = (by_test (live k) h.0, live_within n live (k + 1) xs h.1)
  where
    by_test : (b : Bool) → IsValueWithin n x → IsValueWithin n (if b then x else v.Int 0)
    by_test true w = w
    by_test false w = tt

-- ---- sends

pub outs_within : (n number : ℕ) (args : List Value) (payload : Option Data) (nodes : List ℕ) → AreWithin n args →
    Each (λ k. k < n) nodes → Each (IsSendWithin n) (map (out_to number args payload) nodes)
outs_within n number args payload [] a h = tt
outs_within n number args payload (k ∷ nodes) a h = ((h.0, a), outs_within n number args payload nodes a h.1)
