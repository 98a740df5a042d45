-- Operations on the bits of a set are those on its eight truth values: computed for all bytes and nodes.
use Rattle.std.proofs.Common.{◌≡◌, ℕ, ◌<◌, ◌^◌, ◌-◌, ◌*◌, ◌%◌, ◌&&◌, Bool, true, false, not, List, [], ◌∷◌, refl, sym, nat_eq}
use Rattle.std.proofs.Common.{bit_and, bit_or}
use Rattle.std.proofs.lemmas.Bool.{and_parts, eqb-true}
use Rattle.std.specs.Int.Count.{ones}
use Rattle.tw_base.specs.Bits.{all_below, all_below-at}
use Rattle.tw_base.specs.NodeSets.{count, has, with, without, tests_of}

-- two truth values are the same
same : Bool → Bool → Bool
same true b = b
same false b = not b

same-is : (a b : Bool) → same a b ≡ true → a ≡ b
unfolding same
same-is true true e = refl
same-is true false e = sym e
same-is false true e = e
same-is false false e = refl

same_all : List Bool → List Bool → Bool
same_all [] [] = true
same_all [] (b ∷ bs) = false
same_all (a ∷ as') [] = false
same_all (a ∷ as') (b ∷ bs) = same a b && same_all as' bs

same_all-is : (xs ys : List Bool) → same_all xs ys ≡ true → xs ≡ ys
unfolding same_all
same_all-is [] [] e = refl
same_all-is [] (b ∷ bs) e = absurd (cc)
same_all-is (a ∷ xs) [] e = absurd (cc)
same_all-is (a ∷ xs) (b ∷ bs) e =
    let p = and_parts (same a b) (same_all xs bs) e in
    λ j. same-is a b p.0 j ∷ same_all-is xs bs p.1 j

-- a test of each byte and node
at_each : (ℕ → ℕ → Bool) → Bool
at_each p = all_below 256 (λ bits. all_below 8 (p bits))

at_each-at : (p : ℕ → ℕ → Bool) → at_each p ≡ true → (bits node : ℕ) → bits < 2 ^ 8 → node < 8 → p bits node ≡ true
unfolding at_each
at_each-at p e bits node b n = all_below-at 8 (p bits) (all_below-at 256 (λ k. all_below 8 (p k)) e bits b) node n

pub with-bits : (bits node : ℕ) → bits < 2 ^ 8 → node < 8 → tests_of 8 (bit_or bits (1 * 2 ^ node % 256))
    ≡ with (tests_of 8 bits) node
unfolding same same_all at_each with
with-bits bits node b n =
    same_all-is _ _ (at_each-at (λ k i. same_all (tests_of 8 (bit_or k (1 * 2 ^ i % 256))) (with (tests_of 8 k) i)) refl bits
    node b n)

pub without-bits : (bits node : ℕ) → bits < 2 ^ 8 → node < 8 →
    tests_of 8 (bit_and bits (255 - 1 * 2 ^ node % 256)) ≡ without (tests_of 8 bits) node
unfolding same same_all at_each without
without-bits bits node b n =
    same_all-is _ _ (at_each-at (λ k i. same_all (tests_of 8 (bit_and k (255 - 1 * 2 ^ i % 256))) (without (tests_of 8 k) i))
    refl bits node b n)

pub has-bits : (bits node : ℕ) → bits < 2 ^ 8 → node < 8 → not (nat_eq (bit_and bits (1 * 2 ^ node % 256)) 0)
    ≡ has (tests_of 8 bits) node
unfolding same same_all at_each has
has-bits bits node b n =
    same-is _ _ (at_each-at (λ k i. same (not (nat_eq (bit_and k (1 * 2 ^ i % 256)) 0)) (has (tests_of 8 k) i)) refl bits node
    b n)

pub count-bits : (bits : ℕ) → bits < 2 ^ 8 → ones bits ≡ count (tests_of 8 bits)
unfolding count has ones
count-bits bits b = eqb-true _ _ (all_below-at 256 (λ k. nat_eq (ones k) (count (tests_of 8 k))) refl bits b)
