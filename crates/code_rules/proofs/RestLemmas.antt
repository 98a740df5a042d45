-- The least place of a rest.
use Rattle.std.proofs.Common.{◌≡◌, ℕ, ◌+◌, ◌<◌, ◌^◌, ◌-◌, Bool, true, false, List, [], Option, Some, None, min, subst, sym, ap}
use Rattle.std.proofs.Common.{◌∙◌, ◌==◌, inl, inr, refl, arith, length, take, get_or, replicate, eq-eqb}
use Rattle.std.specs.Prelude.{◌↔◌, if◌then◌else◌, bit_and, count_by, slice_index}
use Rattle.std.specs.Int.{bit_at, bit_not, trailing_zeros, w32}
use Rattle.std.proofs.lemmas.Bool.{cases_lt, eqb-true}
use Rattle.std.proofs.lemmas.List.{get_or-replicate, length-replicate}
use Rattle.std.proofs.lemmas.List.Sums.{count_by_more_no, count_by_more_yes}
use Rattle.std.proofs.lemmas.Nat.Bits.{bit_at-lt, bit_at-trailing_zeros, bit_at-zero, bit_at_above, bit_at_and, bit_at_not}
use Rattle.handler_code.specs.declared.code.Code.{Code}
use Rattle.handler_code.specs.declared.code.OpCode.{OpCode}
use Rattle.handler_code.specs.declared.code.Rest.{Rest}
use Rattle.code_walks.specs.Least.{IsLeast}
use Rattle.code_rules.specs.Serving.{AreCounted, LosesBy, LosesSlot, is_placed, suspends_to}
use Rattle.live_slots.specs.Tables.{IsExact}
use Rattle.code_rules.proofs.Doorways.{ThisRest, this_some, this_none}

-- a rest fails the test, or not
by-test : (code : Code) (P : ℕ → Rest → Type 0) (n : ℕ) (r : Rest) (b : Bool) → (b ≡ true → P n r → ⊥) → (b ≡ false → P n r) →
    IsLeast (ThisRest code P n r) (if b then None else Some r.at)
by-test code P n r true fails holds = this_none code P n r (fails refl)
by-test code P n r false fails holds = this_some code P n r (holds refl)

pub unplaced_here : (code : Code) (n : ℕ) (r : Rest) (b : Bool) (o : Option ℕ) → b ≡ is_placed code n r →
    o ≡ (if b then None else Some r.at) → IsLeast (ThisRest code (λ number rest. is_placed code number rest ≡ false) n r) o
unplaced_here code n r b o e f =
    subst (λ z. IsLeast (ThisRest code (λ number rest. is_placed code number rest ≡ false) n r) z) (sym f)
    (by-test code (λ number rest. is_placed code number rest ≡ false) n r b (λ t h. cc) (λ t. sym e ∙ t))

pub losing_here : (code : Code) (table : List ℕ) (n : ℕ) (r : Rest) (b : Bool) (o : Option ℕ) → IsExact code.ops table →
    ((b ≡ false) ↔ LosesBy table r) → o ≡ (if b then None else Some r.at) →
    IsLeast (ThisRest code (λ number rest. LosesSlot code rest) n r) o
losing_here code table n r b o exact e f =
    subst (λ z. IsLeast (ThisRest code (λ number rest. LosesSlot code rest) n r) z) (sym f)
    (by-test code (λ number rest. LosesSlot code rest) n r b
    (λ t h. let g : b ≡ false = e.1 (record { slot = h.slot; read = (exact r.at h.slot).1 h.read; lost = h.lost }) in cc)
    (λ t. let h = e.0 t in record { slot = h.slot; read = (exact r.at h.slot).0 h.read; lost = h.lost }))

-- ---- slots by their bits

one_of : (a b : ℕ) → a < 2 → min a (1 - b) ≡ 1 → (a ≡ 1) × (b ≡ 0)
one_of a b lt e = (omega arith, omega arith)

none_of : (a b : ℕ) → b < 2 → min a (1 - b) ≡ 0 → a ≡ 1 → b ≡ 1
none_of a b lt e f = omega arith

module _ (read live : ℕ) (few : read < 2 ^ 32) (low : live < 2 ^ 32) where
  lost_at : (k : ℕ) → k < 32 → bit_at (bit_and read (bit_not w32 live)) k ≡ min (bit_at read k) (1 - bit_at live k)
  lost_at k lt = bit_at_and read (bit_not w32 live) k ∙ ap (λ n. min (bit_at read k) n) (bit_at_not w32 live k low lt)

  some_lost : 0 < bit_and read (bit_not w32 live) → bit_and read (bit_not w32 live) < 2 ^ 32 →
      (k : ℕ) × ((bit_at read k ≡ 1) × (bit_at live k ≡ 0))
  some_lost more small =
      let lost = bit_and read (bit_not w32 live) in
      let k = trailing_zeros w32 lost in
      let h = bit_at-trailing_zeros w32 lost more small in
      (k, one_of (bit_at read k) (bit_at live k) (bit_at-lt read k) (sym (lost_at k h.0) ∙ h.1))

  none_lost : bit_and read (bit_not w32 live) ≡ 0 → (k : ℕ) → bit_at read k ≡ 1 → bit_at live k ≡ 1
  none_lost e k f = elim (cases_lt k 32) [
    | inl lt ↦
        none_of (bit_at read k) (bit_at live k) (bit_at-lt live k)
        (sym (lost_at k lt) ∙ (ap (λ n. bit_at n k) e ∙ bit_at-zero k)) f
    | inr ge ↦ let g : bit_at read k ≡ 0 = bit_at_above read 32 k few ge in absurd (omega arith)
  ]

not_so : (b : Bool) → (b ≡ true → ⊥) → b ≡ false
not_so true f = absurd (f refl)
not_so false f = refl

positive : (n : ℕ) → 0 < n → (n == 0) ≡ false
positive n lt = not_so (n == 0) (λ e. let z = eqb-true n 0 e in omega arith)

not_one : (n : ℕ) → n ≡ 0 → (n == 1) ≡ false
not_one n e = ap (λ k. k == 1) e

-- no slot is lost, or one is
module _ (table : List ℕ) (rest : Rest) (read : ℕ) (few : read < 2 ^ 32) (low : rest.live < 2 ^ 32)
    (is : read ≡ slice_index table rest.at) where
  some_loses : (lost : ℕ) → lost < 2 ^ 32 → lost ≡ bit_and read (bit_not w32 rest.live) → 0 < lost → LosesBy table rest
  some_loses lost small e more =
      let h = some_lost read rest.live few low (subst (λ n. 0 < n) e more) (subst (λ n. n < 2 ^ 32) e small) in
      record {
        slot = h.0;
        read = ap (λ n. bit_at n h.0 == 1) (sym is)
            ∙ eq-eqb (bit_at read h.0) 1 h.1.0;
        lost = not_one (bit_at rest.live h.0) h.1.1;
      }

  none_loses : bit_and read (bit_not w32 rest.live) ≡ 0 → LosesBy table rest → ⊥
  none_loses e h =
      let r : bit_at read h.slot ≡ 1 = eqb-true (bit_at read h.slot) 1 (ap (λ n. bit_at n h.slot == 1) is ∙ h.read) in
      let l = eq-eqb (bit_at rest.live h.slot) 1 (none_lost read rest.live few low e h.slot r) in
      let m = h.lost in
      cc

  pub keeps_by : (lost : ℕ) → lost < 2 ^ 32 → lost ≡ bit_and read (bit_not w32 rest.live) →
      ((lost == 0) ≡ false) ↔ LosesBy table rest
  keeps_by lost small e = elim (cases_lt 0 lost) [
    | inl more ↦ (λ f. some_loses lost small e more, λ h. positive lost more)
    | inr none ↦
        let z : lost ≡ 0 = omega arith in
        let t : (lost == 0) ≡ true = eq-eqb lost 0 z in
        (λ f. absurd (cc), λ h. absurd (none_loses (sym e ∙ z) h))
  ]

-- ---- how many ops name a rest

pub none_counted : (n : ℕ) → AreCounted [] (replicate n 0)
none_counted n number lt = get_or-replicate n number 0 0 (omega (arith, length-replicate {A = ℕ} n 0))

count_here : (ops : List OpCode) (i : ℕ) (o : OpCode) (number before : ℕ) (b : Bool) → i < length ops → o ≡ get_or ops i o →
    suspends_to number o ≡ b → before ≡ count_by (suspends_to number) (take i ops) →
    before + (if b then 1 else 0) ≡ count_by (suspends_to number) (take (i + 1) ops)
count_here ops i o number before true lt is e f =
    ap (λ n. n + 1) f ∙ sym (count_by_more_yes (suspends_to number) ops i o lt (ap (suspends_to number) (sym is) ∙ e))
count_here ops i o number before false lt is e f =
    let z : before + 0 ≡ before = omega arith in
    z ∙ f ∙ sym (count_by_more_no (suspends_to number) ops i o lt (ap (suspends_to number) (sym is) ∙ e))

pub counted_more : (ops : List OpCode) (i : ℕ) (o : OpCode) (counts next : List ℕ) → i < length ops → o ≡ get_or ops i o →
    length next ≡ length counts → AreCounted (take i ops) counts →
    ((number : ℕ) → number < length counts → slice_index next number
    ≡ slice_index counts number + (if suspends_to number o then 1 else 0)) → AreCounted (take (i + 1) ops) next
counted_more ops i o counts next lt is same h more number within =
    let inside : number < length counts = omega arith in
    more number inside ∙ count_here ops i o number (slice_index counts number) (suspends_to number o) lt is refl (h number inside)
