-- A table that is closed and justified is exact, and a sweep keeps it justified.
use Rattle.std.proofs.Common.{◌≡◌, ℕ, zero, suc, ◌+◌, ◌<◌, ◌≤◌, ◌-◌, Bool, true, false, List, Option, Some, None, length, refl}
use Rattle.std.proofs.Common.{sym, ap, subst, ◌∙◌, arith, inl, inr, ◌⊎◌, get_or-set_same, get_or-set_other, replicate}
use Rattle.std.specs.Prelude.{◌==◌, ◌&&◌, ◌||◌, nat_lt, not, slice_set, slice_index}
use Rattle.std.proofs.lemmas.Bool.{and_parts, cases_eq, eq-eqb, eqb-true, lt-ltb, ltb-true}
use Rattle.std.proofs.lemmas.Nat.Bits.{bit_at-zero}
use Rattle.handler_code.specs.declared.code.OpCode.{OpCode}
use Rattle.handler_code.specs.declared.code.OpCode.TheVariants as op
use Rattle.handler_code.specs.Live.{HasOp, LeadsTo, ReadsFirst, read_by, reads, later}
use Rattle.tw_base.specs.Bits.{has_bit}
use Rattle.live_slots.specs.Tables.{IsClosed, IsClosedAt, IsExact, IsJustified, IsReadFirst, IsStep, is_set, reads_first}

-- ---- truth values

left_true : (a b : Bool) → a ≡ true → (a || b) ≡ true
left_true true b e = refl
left_true false b e = cc

right_true : (a b : Bool) → b ≡ true → (a || b) ≡ true
right_true true b e = refl
right_true false b e = e

one_true : (a b : Bool) → (a || b) ≡ true → (a ≡ true) ⊎ (b ≡ true)
one_true true b e = inl refl
one_true false b e = inr e

both_true : (a b : Bool) → a ≡ true → b ≡ true → (a && b) ≡ true
both_true true b e f = f
both_true false b e f = cc

not_from : (a : Bool) → (a ≡ true → ⊥) → not a ≡ true
not_from true f = absurd (f refl)
not_from false f = refl

never : (a : Bool) → not a ≡ true → a ≡ true → ⊥
never true e f = cc
never false e f = cc

-- a slot that was not written
unwritten : (j k : ℕ) → (Some j ≡ Some k → ⊥) → not (j == k) ≡ true
unwritten j k f = not_from (j == k) (λ e. f (ap Some (eqb-true j k e)))

other : (j k : ℕ) → not (j == k) ≡ true → Some j ≡ Some k → ⊥
other j k e f = let same : j ≡ k = cc in never (j == k) e (eq-eqb j k same)

-- ---- closed

low_same : (j k : ℕ) → k < 32 → j ≡ k → (nat_lt j 32 && (j == k)) ≡ true
low_same j k small e = both_true (nat_lt j 32) (j == k) (lt-ltb j 32 (omega (arith, e))) (eq-eqb j k e)

read_true : (o : OpCode) (at k : ℕ) (t : ℕ → ℕ → Bool) → k < 32 → read_by o ≡ Some k → reads_first o at t k ≡ true
read_true (op.Get j) at k t small e =
    let same : j ≡ k = cc in left_true (nat_lt j 32 && (j == k)) (t (at + 1) k) (low_same j k small same)
read_true (op.EachNext j h to) at k t small e =
    let same : h ≡ k = cc in
    left_true (nat_lt h 32 && (h == k)) (t to k || (not (j == k) && t (at + 1) k)) (low_same h k small same)
read_true _ at k t small e = cc

along : (t : ℕ → ℕ → Bool) (k next place : ℕ) → next ≡ place → t next k ≡ true → t place k ≡ true
along t k next place e x = subst (λ n. t n k ≡ true) e x

passed : (o : OpCode) (at next k : ℕ) (written : Option ℕ) (t : ℕ → ℕ → Bool) → LeadsTo o at next written →
    (written ≡ Some k → ⊥) → t next k ≡ true → reads_first o at t k ≡ true
passed (op.Get j) at next k written t l w x = right_true (nat_lt j 32 && (j == k)) (t (at + 1) k) (along t k next (at + 1) l.0 x)
passed (op.Put j) at next k written t l w x =
    both_true (not (j == k)) (t (at + 1) k) (unwritten j k (λ e. w (l.1 ∙ e))) (along t k next (at + 1) l.0 x)
passed (op.Jump to) at next k written t l w x = along t k next to l.0 x
passed (op.JumpBack to) at next k written t l w x = along t k next to l.0 x
passed (op.JumpIfNot to) at next k written t l w x = elim l.0 [
  | inl e ↦ left_true (t to k) (t (at + 1) k) (along t k next to e x)
  | inr e ↦ right_true (t to k) (t (at + 1) k) (along t k next (at + 1) e x)
]
passed (op.EachNext j h to) at next k written t l w x = elim l [
  | inl e ↦
      right_true (nat_lt h 32 && (h == k)) (t to k || (not (j == k) && t (at + 1) k))
      (left_true (t to k) (not (j == k) && t (at + 1) k) (along t k next to e.0 x))
  | inr e ↦
      right_true (nat_lt h 32 && (h == k)) (t to k || (not (j == k) && t (at + 1) k))
      (right_true (t to k) (not (j == k) && t (at + 1) k)
      (both_true (not (j == k)) (t (at + 1) k) (unwritten j k (λ f. w (e.1 ∙ f))) (along t k next (at + 1) e.0 x)))
]
passed op.Resume at next k written t l w x = absurd l
passed op.Done at next k written t l w x = absurd l
passed _ at next k written t l w x = along t k next (at + 1) l.0 x

has : (ops : List OpCode) (table : List ℕ) → IsClosed ops table → {at k : ℕ} → k < 32 → ReadsFirst ops at k →
    is_set table at k ≡ true
has ops table c small (reads {at = at} {slot = k} {o = o} h r) = c at o h k ∙ read_true o at k (is_set table) small r
has ops table c small (later {at = at} {next = next} {slot = k} {o = o} {written = written} h l w x) =
    c at o h k ∙ passed o at next k written (is_set table) l w (has ops table c small x)

pub exact : (ops : List OpCode) (table : List ℕ) → IsClosed ops table → IsJustified ops table → IsExact ops table
exact ops table c j at k = (j at k, λ r. has ops table c r.small r.reads)

-- ---- justified

module _ (ops : List OpCode) (table : List ℕ) (j : IsJustified ops table) (at k : ℕ) where
  here : (o : OpCode) (i : ℕ) → HasOp ops at o → read_by o ≡ Some i → (nat_lt i 32 && (i == k)) ≡ true → IsReadFirst ops at k
  here o i h r e =
      let parts = and_parts (nat_lt i 32) (i == k) e in
      let same : i ≡ k = eqb-true i k parts.1 in
      record { small = subst (λ n. n < 32) same (ltb-true i 32 parts.0); reads = reads h (r ∙ ap Some same) }

  onward : (o : OpCode) (next : ℕ) (written : Option ℕ) → HasOp ops at o → LeadsTo o at next written → (written ≡ Some k → ⊥) →
      is_set table next k ≡ true → IsReadFirst ops at k
  onward o next written h l w x = let r = j next k x in record { small = r.small; reads = later h l w r.reads }

  reads_so : (o : OpCode) → HasOp ops at o → reads_first o at (is_set table) k ≡ true → IsReadFirst ops at k
  reads_so (op.Get i) h e = elim (one_true (nat_lt i 32 && (i == k)) (is_set table (at + 1) k) e) [
    | inl f ↦ here (op.Get i) i h refl f
    | inr f ↦ onward (op.Get i) (at + 1) None h (refl, refl) (λ q. cc) f
  ]
  reads_so (op.Put i) h e =
      let parts = and_parts (not (i == k)) (is_set table (at + 1) k) e in
      onward (op.Put i) (at + 1) (Some i) h (refl, refl) (other i k parts.0) parts.1
  reads_so (op.Jump to) h e = onward (op.Jump to) to None h (refl, refl) (λ q. cc) e
  reads_so (op.JumpBack to) h e = onward (op.JumpBack to) to None h (refl, refl) (λ q. cc) e
  reads_so (op.JumpIfNot to) h e = elim (one_true (is_set table to k) (is_set table (at + 1) k) e) [
    | inl f ↦ onward (op.JumpIfNot to) to None h (inl refl, refl) (λ q. cc) f
    | inr f ↦ onward (op.JumpIfNot to) (at + 1) None h (inr refl, refl) (λ q. cc) f
  ]
  reads_so (op.EachNext i s to) h e =
      elim (one_true (nat_lt s 32 && (s == k)) (is_set table to k || (not (i == k) && is_set table (at + 1) k)) e) [
        | inl f ↦ here (op.EachNext i s to) s h refl f
        | inr f ↦ elim (one_true (is_set table to k) (not (i == k) && is_set table (at + 1) k) f) [
          | inl g ↦ onward (op.EachNext i s to) to None h (inl (refl, refl)) (λ q. cc) g
          | inr g ↦
              let parts = and_parts (not (i == k)) (is_set table (at + 1) k) g in
              onward (op.EachNext i s to) (at + 1) (Some i) h (inr (refl, refl)) (other i k parts.0) parts.1
        ]
      ]
  reads_so op.Resume h e = cc
  reads_so op.Done h e = cc
  reads_so o h e = onward o (at + 1) None h (refl, refl) (λ q. cc) e

-- a step that is written keeps the table justified
pub justified_set : (ops : List OpCode) (table : List ℕ) (at bits : ℕ) (o : OpCode) → IsJustified ops table → HasOp ops at o →
    at < length table → IsStep o at table bits → IsJustified ops (slice_set table at bits)
justified_set ops table at bits o j h lt step place k e = elim (cases_eq place at) [
  | inl same ↦
      let here : slice_index (slice_set table at bits) place ≡ bits = ap (λ n. slice_index (slice_set table at bits) n) same
      ∙ get_or-set_same table at bits 0 lt in
      let bit : has_bit bits k ≡ true = sym (ap (λ n. has_bit n k) here) ∙ e in
      subst (λ n. IsReadFirst ops n k) (sym same) (reads_so ops table j at k o h (sym (step k) ∙ bit))
  | inr apart ↦
      j place k (sym (ap (λ n. has_bit n k) (get_or-set_other table at place bits 0 apart)) ∙ e)
]

none_at : (n at : ℕ) → slice_index (replicate n 0) at ≡ 0
none_at zero at = refl
none_at (suc n) zero = refl
none_at (suc n) (suc at) = none_at n at

-- nothing is set
pub justified_none : (ops : List OpCode) (n : ℕ) → IsJustified ops (replicate n 0)
justified_none ops n at k e =
    let unset : has_bit (slice_index (replicate n 0) at) k ≡ false = ap (λ b. has_bit b k) (none_at n at)
    ∙ ap (λ b. b == 1) (bit_at-zero k) in
    cc

-- one place more is closed
pub closed_more : (ops : List OpCode) (old new : List ℕ) (at : ℕ) → new ≡ old → IsClosedAt ops new (at - 1) →
    ((place : ℕ) → at ≤ place → IsClosedAt ops old place) → (place : ℕ) → at - 1 ≤ place → IsClosedAt ops new place
closed_more ops old new at e here before place le = elim (cases_eq place (at - 1)) [
  | inl same ↦ subst (λ n. IsClosedAt ops new n) (sym same) here
  | inr other ↦ subst (λ t. IsClosedAt ops t place) (sym e) (before place (omega arith))
]
