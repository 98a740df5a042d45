-- The members of a set, one node after another.
use Rattle.std.proofs.Common.{◌≡◌, ℕ, zero, suc, ◌+◌, ◌≤◌, Bool, true, false, List, [], ◌∷◌, ◌++◌, length, set, take, Some}
use Rattle.std.proofs.Common.{refl, ap, ◌∙◌, arith, add-one, append-nil, length-append, ◌<◌}
use Rattle.std.specs.Prelude.{if◌then◌else◌, slice_get}
use Rattle.std.proofs.Math.Seq.{take-set-lt}
use Rattle.std.proofs.lemmas.List.{length-take}
use Rattle.tw_base.specs.NodeSets.{has, members, members_from, without}
use Rattle.teapot_meaning.specs.Depth.{nodes_in}

-- one node more
members_next : (j k : ℕ) (s : List Bool) → members_from j (take (suc k) s) ≡ members_from j (take k s)
    ++ (if has s k then (j + k) ∷ [] else [])
unfolding has
members_next j zero [] = refl
members_next j (suc k) [] = refl
members_next j zero (true ∷ s) = let e : j ≡ j + 0 = omega arith in ap (λ n. n ∷ []) e
members_next j zero (false ∷ s) = refl
members_next j (suc k) (true ∷ s) = let e : suc j + k ≡ j + suc k = omega arith in
    ap (λ ns. j ∷ ns) (members_next (suc j) k s ∙ ap (λ n. members_from (suc j) (take k s) ++ (if has s k then n ∷ [] else [])) e)
members_next j (suc k) (false ∷ s) = let e : suc j + k ≡ j + suc k = omega arith in
    members_next (suc j) k s ∙ ap (λ n. members_from (suc j) (take k s) ++ (if has s k then n ∷ [] else [])) e

pub members_more : (k : ℕ) (s : List Bool) → members_from 0 (take (k + 1) s) ≡ members_from 0 (take k s)
    ++ (if has s k then k ∷ [] else [])
members_more k s =
    let e : 0 + k ≡ k = omega arith in
    ap (λ n. members_from 0 (take n s)) (add-one k) ∙ members_next 0 k s
    ∙ ap (λ n. members_from 0 (take k s) ++ (if has s k then n ∷ [] else [])) e

-- a member below which there is none
least_from : (j k n : ℕ) (s : List Bool) → members_from j (take k s) ≡ [] → has s k ≡ true → k < n →
    slice_get (members_from j (take n s)) 0 ≡ Some (j + k)
unfolding has
least_from j k zero s none here low = absurd (omega arith)
least_from j k (suc n) [] none here low = absurd (cc)
least_from j zero (suc n) (true ∷ s) none here low = let e : j ≡ j + 0 = omega arith in ap Some e
least_from j zero (suc n) (false ∷ s) none here low = absurd (cc)
least_from j (suc k) (suc n) (true ∷ s) none here low = absurd (cc)
least_from j (suc k) (suc n) (false ∷ s) none here low = let e : suc j + k ≡ j + suc k = omega arith in
    least_from (suc j) k n s none here (omega arith) ∙ ap Some e

pub least_at : (k n : ℕ) (s : List Bool) → members_from 0 (take k s) ≡ [] → has s k ≡ true → k < n →
    slice_get (members_from 0 (take n s)) 0 ≡ Some k
least_at k n s none here low = let e : 0 + k ≡ k = omega arith in least_from 0 k n s none here low ∙ ap Some e

-- ---- whether a node is a member

pub members_in : (k : ℕ) (s : List Bool) → has s k ≡ true → members_from 0 (take (k + 1) s) ≡ members_from 0 (take k s) ++ k ∷ []
members_in k s here = members_more k s ∙ ap (λ b. members_from 0 (take k s) ++ (if b then k ∷ [] else [])) here

pub members_out : (k : ℕ) (s : List Bool) → has s k ≡ false → members_from 0 (take (k + 1) s) ≡ members_from 0 (take k s)
members_out k s none = members_more k s ∙ ap (λ b. members_from 0 (take k s) ++ (if b then k ∷ [] else [])) none
    ∙ append-nil (members_from 0 (take k s))

fewer_from : (j k n : ℕ) (s : List Bool) → k ≤ n → length (members_from j (take k s)) ≤ length (members_from j (take n s))
fewer_from j zero n s low = omega arith
fewer_from j (suc k) zero s low = absurd (omega arith)
fewer_from j (suc k) (suc n) [] low = omega arith
fewer_from j (suc k) (suc n) (true ∷ s) low = omega (arith, fewer_from (suc j) k n s (omega (arith, low)))
fewer_from j (suc k) (suc n) (false ∷ s) low = fewer_from (suc j) k n s (omega (arith, low))

-- a member is one of those of the whole set
pub members_room : (k n : ℕ) (s : List Bool) → has s k ≡ true → k < n →
    length (members_from 0 (take k s)) < length (members_from 0 (take n s))
members_room k n s here low =
    omega (
      arith,
      fewer_from 0 (k + 1) n s (omega (arith, low)),
      ap length (members_in k s here),
      length-append (members_from 0 (take k s)) (k ∷ []),
    )

-- without its least member
rest_from : (k n : ℕ) (ns : List ℕ) (s : List Bool) → members_from k s ≡ n ∷ ns
    → (i : ℕ) × (n ≡ k + i) × (i < length s) × (members_from k (set s i false) ≡ ns)
rest_from k n ns [] e = absurd (cc)
rest_from k n ns (true ∷ s) e =
    let here : k ≡ n = cc in
    let more : members_from (suc k) s ≡ ns = cc in
    (0, omega arith, omega arith, more)
rest_from k n ns (false ∷ s) e =
    let r = rest_from (suc k) n ns s e in
    (suc r.0, omega (arith, r.1), omega (arith, r.2), r.3)

pub members_rest : (n : ℕ) (ns : List ℕ) (s : List Bool) → members s ≡ n ∷ ns → (n < length s) × (members (without s n) ≡ ns)
unfolding members without
members_rest n ns s e =
    let r = rest_from 0 n ns s e in
    let at : n ≡ r.0 = omega (arith, r.1) in
    (omega (arith, at, r.2), ap (λ k. members_from 0 (set s k false)) at ∙ r.3)

few_from : (k : ℕ) (s : List Bool) → length (members_from k s) ≤ length s
few_from k [] = omega arith
few_from k (true ∷ s) = omega (arith, few_from (suc k) s)
few_from k (false ∷ s) = omega (arith, few_from (suc k) s)

pub members_few : (s : List Bool) → length (members s) ≤ length s
unfolding members
members_few s = few_from 0 s

-- ---- the nodes of a set

by_first : (xs : List ℕ) (n : ℕ) → slice_get xs 0 ≡ Some n → (ns : List ℕ) × (xs ≡ n ∷ ns)
by_first [] n e = cc
by_first (x ∷ xs) n e = let h : x ≡ n = cc in (xs, ap (λ y. y ∷ xs) h)

pub nodes_few : (s : List Bool) → length (nodes_in s) ≤ 8
nodes_few s = omega (arith, members_few (take 8 s), length-take 8 s)

pub nodes_rest : (s : List Bool) (n : ℕ) → slice_get (nodes_in s) 0 ≡ Some n →
    length (nodes_in (without s n)) + 1 ≡ length (nodes_in s)
unfolding without
nodes_rest s n e =
    let f = by_first (nodes_in s) n e in
    let r = members_rest n f.0 (take 8 s) f.1 in
    let low : n < 8 = omega (arith, r.0, length-take 8 s) in
    let rest : nodes_in (without s n) ≡ f.0 = ap members (take-set-lt 8 s n false low) ∙ r.1 in
    omega (arith, ap length rest, ap length f.1)
