-- What stands at the place of a processor on a guarded program.
use Rattle.std.proofs.Common.{◌≡◌, ℕ, zero, suc, ◌+◌, ◌<◌, ◌≤◌, ◌⊎◌, inl, inr, Bool, true, false, List, [], ◌∷◌, ◌++◌, length}
use Rattle.std.proofs.Common.{drop, get_or, slice_get, Option, Some, None, refl, ap, sym, ◌∙◌, subst, add-zero, arith}
use Rattle.std.proofs.lemmas.List.{drop_all}
use Rattle.std.proofs.lemmas.Option.{get_or_from_slice_get, same_Some, slice_get_within, slice_get_cases}
use Rattle.mini_asm.specs.Programs.{HasRegisters, IsInstr, IsProgram}
use Rattle.mini_asm.specs.declared.cpu.Cpu.{Cpu}
use Rattle.mini_asm.specs.declared.instr.Instr.{Instr}
use Rattle.mini_asm.specs.declared.instr.Instr.TheVariants.{Ld, St, Beq, Faa}
use Rattle.blizzard_guard.specs.declared.guarding.GuardOp.{GuardOp}
use Rattle.blizzard_guard.specs.declared.guarding.GuardOp.TheVariants.{Check, Do}
use Rattle.blizzard_guard.specs.declared.guarding.Guarded.{Guarded}
use Rattle.blizzard_guard.specs.Guarding.{check_of, first_op, moved, ops_of, plain_place, plain_of}
use Rattle.blizzard_guard.specs.Running.{IsOnGuarded, check_here, instr_here}
use Rattle.blizzard_guard.proofs.Ops.{drop-ops_of}

-- the end of the program; an instruction that is no access; an access, behind its check
pub data Standing (p : List Instr) (k : ℕ) (ops : List GuardOp) (at : ℕ) : Type 0 where
  AtEnd : slice_get p k ≡ None → slice_get ops at ≡ None → Standing p k ops at
  AtPlain : (i : Instr) → slice_get p k ≡ Some i → check_of i ≡ [] → slice_get ops at ≡ Some (Do (moved (first_op p) i))
      → Standing p k ops at
  AtAccess : (i : Instr) (store : Bool) (base offset : ℕ) → slice_get p k ≡ Some i → check_of i ≡ Check store base offset ∷ []
      → slice_get ops at ≡ Some (Check store base offset) → slice_get ops (at + 1) ≡ Some (Do (moved (first_op p) i))
      → Standing p k ops at

-- an instruction has one check or none
pub check_cases : (i : Instr)
    → (check_of i ≡ []) ⊎ ((store : Bool) × (base : ℕ) × (offset : ℕ) × (check_of i ≡ Check store base offset ∷ []))
check_cases (Ld d a n) = inr (false, a, n, refl)
check_cases (St s a n) = inr (true, a, n, refl)
check_cases (Faa d s a n) = inr (true, a, n, refl)
check_cases _ = inl refl

at_drop : {X : Type 0} (xs : List X) (n j : ℕ) → slice_get xs (n + j) ≡ slice_get (drop n xs) j
at_drop xs zero j = ap (slice_get xs) (omega arith)
at_drop [] (suc n) j = refl
at_drop (x ∷ xs) (suc n) j = let e : suc n + j ≡ suc (n + j) = omega arith in rw e (at_drop xs n j)

drop_some : {X : Type 0} (xs : List X) (k : ℕ) (x : X) → slice_get xs k ≡ Some x → drop k xs ≡ x ∷ drop (suc k) xs
drop_some [] k x e = cc
drop_some (y ∷ xs) zero x e = cc
drop_some (y ∷ xs) (suc k) x e = drop_some xs k x e

-- the ops from those of the instruction at k on
pub ops_from : (p : List Instr) (k : ℕ) (i : Instr) → slice_get p k ≡ Some i
    → drop (first_op p k) (ops_of (first_op p) p)
    ≡ check_of i ++ Do (moved (first_op p) i) ∷ drop (first_op p (suc k)) (ops_of (first_op p) p)
ops_from p k i e =
    drop-ops_of (first_op p) p k ∙ ap (ops_of (first_op p)) (drop_some p k i e)
    ∙ ap (λ (ops : List GuardOp). check_of i ++ Do (moved (first_op p) i) ∷ ops) (sym (drop-ops_of (first_op p) p (suc k)))

-- an op of the instruction at k, counted from its first
op_of : (p : List Instr) (k : ℕ) (i : Instr) (j : ℕ) → slice_get p k ≡ Some i
    → slice_get (ops_of (first_op p) p) (first_op p k + j) ≡ slice_get (check_of i ++ Do (moved (first_op p) i) ∷ ops_of
    (first_op p) (drop (suc k) p)) j
op_of p k i j e =
    at_drop (ops_of (first_op p) p) (first_op p k) j
    ∙ ap (λ (ops : List GuardOp). slice_get ops j) (drop-ops_of (first_op p) p k ∙ ap (ops_of (first_op p)) (drop_some p k i e))

first_of : (p : List Instr) (k : ℕ) (i : Instr) → slice_get p k ≡ Some i
    → slice_get (ops_of (first_op p) p) (first_op p k) ≡ slice_get (check_of i ++ Do (moved (first_op p) i) ∷ ops_of
    (first_op p) (drop (suc k) p)) 0
first_of p k i e = ap (slice_get (ops_of (first_op p) p)) (sym (add-zero (first_op p k))) ∙ op_of p k i 0 e

op_end : (p : List Instr) (k : ℕ) → length p ≤ k → slice_get (ops_of (first_op p) p) (first_op p k) ≡ None
op_end p k h =
    ap (slice_get (ops_of (first_op p) p)) (sym (add-zero (first_op p k))) ∙ at_drop (ops_of (first_op p) p) (first_op p k) 0
    ∙ ap (λ (ops : List GuardOp). slice_get ops 0) (drop-ops_of (first_op p) p k ∙ ap (ops_of (first_op p)) (drop_all k p h))

at_instr : (p : List Instr) (k : ℕ) (i : Instr) → slice_get p k ≡ Some i
    → ((check_of i ≡ []) ⊎ ((store : Bool) × (base : ℕ) × (offset : ℕ) × (check_of i ≡ Check store base offset ∷ [])))
    → Standing p k (ops_of (first_op p) p) (first_op p k)
at_instr p k i e (inl none) = AtPlain i e none (first_of p k i e ∙ rw none refl)
at_instr p k i e (inr (store, base, offset, check)) = AtAccess i store base offset e check (first_of p k i e
    ∙ rw check refl) (op_of p k i 1 e ∙ rw check refl)

by_place : (p : List Instr) (k : ℕ)
    → (((i : Instr) × (k < length p) × (slice_get p k ≡ Some i) × (get_or p k i ≡ i)) ⊎ ((length p ≤ k) × (slice_get p
    k ≡ None))) → Standing p k (ops_of (first_op p) p) (first_op p k)
by_place p k (inl h) = at_instr p k h.0 h.2 (check_cases h.0)
by_place p k (inr h) = AtEnd h.1 (op_end p k h.0)

-- what stands at the place of a processor
pub standing : (g : Guarded) (cpu : Cpu) → IsOnGuarded g cpu → Standing (plain_of g) (plain_place g cpu.place) g.ops cpu.place
standing g cpu on =
    let p = plain_of g in
    let k = plain_place g cpu.place in
    let ops : ops_of (first_op p) p ≡ g.ops = sym (ap (λ (h : Guarded). h.ops) on.same) in
    let here : Standing p k (ops_of (first_op p) p) (first_op p k) = by_place p k (slice_get_cases p k).1 in
    subst (λ (os : List GuardOp). Standing p k os cpu.place) ops (subst (Standing p k (ops_of (first_op p) p))
    (sym on.there) here)

-- an instruction of a program is one of its length
pub instr_of : (p : List Instr) (k : ℕ) (i : Instr) → IsProgram p → slice_get p k ≡ Some i → IsInstr (length p) i
instr_of p k i valid e = subst (IsInstr (length p)) (get_or_from_slice_get p k i i e) (valid.each k i (slice_get_within p k i e))

-- its registers stay in range where its jump is moved
pub registers_moved : (f : ℕ → ℕ) (i : Instr) → HasRegisters i → HasRegisters (moved f i)
registers_moved f (Beq a b place) h = h
registers_moved f _ h = h

-- an access has its base among its registers
pub base_of : (i : Instr) (store : Bool) (base offset : ℕ) → check_of i ≡ Check store base offset ∷ [] → HasRegisters i
    → base < 16
base_of (Ld d a n) store base offset e h = let same : a ≡ base = cc in subst (λ n. n < 16) same h.1
base_of (St s a n) store base offset e h = let same : a ≡ base = cc in subst (λ n. n < 16) same h.1
base_of (Faa d s a n) store base offset e h = let same : a ≡ base = cc in subst (λ n. n < 16) same h.2
base_of _ store base offset e h = cc

-- ---- what the code reads at a place

pub is_check : (o : Option GuardOp) (store : Bool) (base offset : ℕ) → check_here o ≡ Some (store, base, offset)
    → o ≡ Some (Check store base offset)
is_check None store base offset e = cc
is_check (Some (Check store' base' offset')) store base offset e =
    ap (λ (t : Bool × ℕ × ℕ). Some (Check t.0 t.1 t.2)) (same_Some (store', base', offset') (store, base, offset) e)
is_check (Some (Do i)) store base offset e = cc

pub is_instr : (o : Option GuardOp) (i : Instr) → instr_here o ≡ Some i → o ≡ Some (Do i)
is_instr None i e = cc
is_instr (Some (Check store base offset)) i e = cc
is_instr (Some (Do j)) i e = cc

pub no_check : (o : Option GuardOp) (store : Bool) (base offset : ℕ) → check_here o ≡ None
    → o ≡ Some (Check store base offset) → ⊥
no_check o store base offset e is = let some : check_here o ≡ Some (store, base, offset) = ap check_here is in cc

pub no_instr : (o : Option GuardOp) (i : Instr) → instr_here o ≡ None → o ≡ Some (Do i) → ⊥
no_instr o i e is = let some : instr_here o ≡ Some i = ap instr_here is in cc
