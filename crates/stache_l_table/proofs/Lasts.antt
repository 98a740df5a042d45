-- The last of a set's nodes is the member of greatest number.
use Rattle.std.proofs.Common.{◌≡◌, ◌∙◌, ℕ, zero, suc, ◌<◌, ◌≤◌, Bool, true, false, List, [], ◌∷◌, length, refl, ap, sym, subst}
use Rattle.std.proofs.Common.{arith}
use Rattle.std.specs.Prelude.{if◌then◌else◌, ◌==◌}
use Rattle.tw_base.specs.NodeSets.{count, has, members, members_from}
use Rattle.teapot_meaning.specs.Depth.{nodes_in}
use Rattle.stache_table.specs.Runs.{last_of}
use Rattle.stache_table.proofs.Sets.{IsEight, eight_of, tests}
use Rattle.stache_l_table.specs.Handling.{greatest}

-- the last member from k on, or the one before
one_more : (m k : ℕ) (t : Bool) (s : List Bool) → last_of m (members_from k (t ∷ s))
    ≡ last_of (if t then k else m) (members_from (suc k) s)
one_more m k true s = refl
one_more m k false s = refl

eight-last : (t0 t1 t2 t3 t4 t5 t6 t7 : Bool) → last_of 0 (members_from 0 (t0 ∷ t1 ∷ t2 ∷ t3 ∷ t4 ∷ t5 ∷ t6 ∷ t7 ∷ []))
    ≡ greatest 8 (has (t0 ∷ t1 ∷ t2 ∷ t3 ∷ t4 ∷ t5 ∷ t6 ∷ t7 ∷ []))
unfolding has
eight-last t0 t1 t2 t3 t4 t5 t6 t7 =
    one_more 0 0 t0 _
    ∙ (one_more _ 1 t1 _
    ∙ (one_more _ 2 t2 _
    ∙ (one_more _ 3 t3 _ ∙ (one_more _ 4 t4 _ ∙ (one_more _ 5 t5 _ ∙ (one_more _ 6 t6 _ ∙ one_more _ 7 t7 _))))))

last-eight : (s : List Bool) → IsEight s → last_of 0 (nodes_in s) ≡ greatest 8 (has s)
unfolding members
last-eight _ (tests t0 t1 t2 t3 t4 t5 t6 t7) = eight-last t0 t1 t2 t3 t4 t5 t6 t7

pub last-is : (s : List Bool) (n : ℕ) (ns : List ℕ) → length s ≡ 8 → nodes_in s ≡ n ∷ ns → last_of n ns ≡ greatest 8 (has s)
last-is s n ns eight is = ap (last_of 0) (sym is) ∙ last-eight s (eight_of s eight)

greatest_low : (n : ℕ) (s : ℕ → Bool) → greatest n s ≤ n
greatest_low zero s = omega arith
greatest_low (suc n) s = by_test (s n) (greatest_low n s)
  where
    by_test : (t : Bool) → greatest n s ≤ n → (if t then n else greatest n s) ≤ suc n
    by_test true le = omega arith
    by_test false le = omega (arith, le)

-- among at least one node it is one of them
pub greatest_below : (n : ℕ) (s : ℕ → Bool) → greatest (suc n) s < suc n
greatest_below n s = by_test (s n) (greatest_low n s)
  where
    by_test : (t : Bool) → greatest n s ≤ n → (if t then n else greatest n s) < suc n
    by_test true le = omega arith
    by_test false le = omega (arith, le)

pub last-low : (s : List Bool) (n : ℕ) (ns : List ℕ) → length s ≡ 8 → nodes_in s ≡ n ∷ ns → last_of n ns < 8
last-low s n ns eight is = omega (arith, last-is s n ns eight is, greatest_below 7 (has s))

-- a set without nodes has no members
found : (k : ℕ) (t : Bool) (s : List Bool) → members_from k (t ∷ s) ≡ [] → (t ≡ false) × (members_from (suc k) s ≡ [])
found k true s e = absurd cc
found k false s e = (refl, e)

no-nodes : (s : List Bool) → IsEight s → nodes_in s ≡ [] → count s ≡ 0
unfolding members count has
no-nodes _ (tests t0 t1 t2 t3 t4 t5 t6 t7) e =
    let a0 = found 0 t0 _ e in
    let a1 = found 1 t1 _ a0.1 in
    let a2 = found 2 t2 _ a1.1 in
    let a3 = found 3 t3 _ a2.1 in
    let a4 = found 4 t4 _ a3.1 in
    let a5 = found 5 t5 _ a4.1 in
    let a6 = found 6 t6 _ a5.1 in
    let a7 = found 7 t7 _ a6.1 in
    rw (a0.0, a1.0, a2.0, a3.0, a4.0, a5.0, a6.0, a7.0) refl

-- a set of two nodes has a first
pub two-some : (s : List Bool) → length s ≡ 8 → (count s == 2) ≡ true → (n : ℕ) × (ns : List ℕ) × (nodes_in s ≡ n ∷ ns)
two-some s eight two = by_nodes (nodes_in s) refl
  where
    by_nodes : (ms : List ℕ) → nodes_in s ≡ ms → (n : ℕ) × (ns : List ℕ) × (nodes_in s ≡ n ∷ ns)
    by_nodes (n ∷ ns) is = (n, ns, is)
    by_nodes [] is = absurd (let none : count s ≡ 0 = no-nodes s (eight_of s eight) is in let e : (0 == 2)
        ≡ true = subst (λ k. (k == 2) ≡ true) none two in cc)
