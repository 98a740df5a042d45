-- What a row may cost: the message pays for what the handler leaves behind.
use Rattle.std.proofs.Common.{◌≡◌, ℕ, zero, suc, ◌+◌, ◌<◌, ◌≤◌, Bool, true, false, List, [], ◌∷◌, ◌++◌, length, arith, refl}
use Rattle.std.proofs.Common.{sym, ap, ◌∙◌, inl, inr, cond}
use Rattle.std.proofs.lemmas.Bool.{cases_eq}
use Rattle.std.proofs.lemmas.List.{length-append}
use Rattle.tw_base.specs.Lists.{one_if}
use Rattle.block_spots.specs.Cases.{Inv, Here, Message, Effect, members}
use Rattle.block_spots.specs.Notes.{Note, NInv, note}
use Rattle.stache_table.specs.Handling.{inv_all, plain}
use Rattle.coherence_frame.specs.Weights.{weigh, price, rest_weight}
use Rattle.coherence_frame.proofs.Loads.{outgoing, kept_weight, sum_below_add, sum_below_le, sum_below_ones, if_at, if_at_is}
use Rattle.coherence_frame.proofs.Loads.{if_at_other, sum_if_at}
use Rattle.coherence_frame.proofs.Stales.{stale_after}

outgoing-append : (f : Note → ℕ) (xs ys : List Message) → outgoing f (xs ++ ys) ≡ outgoing f xs + outgoing f ys
outgoing-append f [] ys = omega arith
outgoing-append f (x ∷ xs) ys = omega (arith, outgoing-append f xs ys)

members_more : (n : ℕ) (s : ℕ → Bool) → members (suc n) s ≡ members n s + one_if (s n)
unfolding members
members_more n s = refl

members_zero : (s : ℕ → Bool) → members zero s ≡ 0
unfolding members
members_zero s = refl

-- INV to each member: so many messages, of this weight and price
pub inv_count : (n : ℕ) (s : ℕ → Bool) (b me : ℕ) → length (inv_all n s b me) ≡ members n s
inv_count zero s b me = sym (members_zero s)
inv_count (suc n) s b me = omega (
  arith,
  length-append (inv_all n s b me) (cond (s n) (plain Inv b me n ∷ []) []),
  inv_count n s b me,
  members_more n s,
  last (s n),
)
  where
    last : (t : Bool) → length (cond t (plain Inv b me n ∷ []) []) ≡ one_if t
    last true = refl
    last false = refl

pub inv_price : (f : Note → ℕ) → f NInv ≡ 1 → (n : ℕ) (s : ℕ → Bool) (b me : ℕ) → outgoing f (inv_all n s b me) ≡ members n s
inv_price f v zero s b me = sym (members_zero s)
inv_price f v (suc n) s b me = omega (
  arith,
  outgoing-append f (inv_all n s b me) (cond (s n) (plain Inv b me n ∷ []) []),
  inv_price f v n s b me,
  members_more n s,
  last (s n),
)
  where
    last : (t : Bool) → outgoing f (cond t (plain Inv b me n ∷ []) []) ≡ one_if t
    last true = omega (arith, v)
    last false = refl

pub inv_weight : (f : Note → ℕ) → f NInv ≡ 2 → (n : ℕ) (s : ℕ → Bool) (b me : ℕ) →
    outgoing f (inv_all n s b me) ≡ members n s + members n s
inv_weight f v zero s b me = omega (arith, members_zero s)
inv_weight f v (suc n) s b me = omega (
  arith,
  outgoing-append f (inv_all n s b me) (cond (s n) (plain Inv b me n ∷ []) []),
  inv_weight f v n s b me,
  members_more n s,
  last (s n),
)
  where
    last : (t : Bool) → outgoing f (cond t (plain Inv b me n ∷ []) []) ≡ one_if t + one_if t
    last true = omega (arith, v)
    last false = refl

-- members among n nodes that leave out one of them
pub members_but : (n h : ℕ) (s : ℕ → Bool) → h < n → s h ≡ false → members n s + 1 ≤ n
unfolding members
members_but n h s l e = omega (
  arith,
  sum_below_add n (λ j. one_if (s j) + if_at h 1 j) (λ j. one_if (s j)) (if_at h 1) (λ j k. refl),
  sum_if_at n h 1 l,
  sum_below_le n (λ j. one_if (s j) + if_at h 1 j) (λ j. 1) one,
  sum_below_ones n,
)
  where
    one_less : (t : Bool) → one_if t ≤ 1
    one_less true = omega arith
    one_less false = omega arith

    one : (j : ℕ) → j < n → one_if (s j) + if_at h 1 j ≤ 1
    one j k = elim (cases_eq h j) [
      | inl q ↦ omega (arith, ap one_if (ap s (sym q) ∙ e), if_at_is h 1 j q)
      | inr d ↦ omega (arith, one_less (s j), if_at_other h 1 j d)
    ]

-- the message pays: for a handler event, for the messages sent, for the rest; v are the stale ones before
pub record Paid (n : ℕ) (home : Here) (m : Message) (e : Effect) (v : ℕ) : Type 0 where
  pub handlers : 1 + outgoing (weigh n) e.sends + kept_weight e.kept
      (weigh n (note m)) + rest_weight n e.here.rest + v ≤ weigh n
      (note m) + rest_weight n home.rest + stale_after e.freed e.kept v
  pub sends : length e.sends + outgoing (price n) e.sends + kept_weight e.kept
      (price n (note m)) + rest_weight 1 e.here.rest ≤ price n (note m) + rest_weight 1 home.rest
