-- To complete the instruction behind its check is to complete that of the plain program.
use Rattle.std.proofs.Common.{◌≡◌, ℕ, zero, suc, ◌+◌, ◌*◌, ◌^◌, ◌<◌, ◌≤◌, ◌==◌, Bool, true, false, nat_lt, if◌then◌else◌, List}
use Rattle.std.proofs.Common.{[], ◌∷◌, length, slice_get, slice_index, Option, Some, None, refl, ap, sym, ◌∙◌, subst, add-zero}
use Rattle.std.proofs.Common.{add-one, arith}
use Rattle.std.proofs.lemmas.Option.{slice_get_within}
use Rattle.mini_asm.specs.Machine.{written, with_written, place_after, completed, finish_of}
use Rattle.mini_asm.specs.Run.{first_cpu}
use Rattle.mini_asm.specs.Programs.{GoesWithin, HasRegisters, IsProgram}
use Rattle.mini_asm.specs.declared.cpu.Cpu.{Cpu}
use Rattle.mini_asm.specs.declared.instr.Instr.{Instr}
use Rattle.mini_asm.specs.declared.instr.Instr.TheVariants.{Ld, Beq, Bne, Blt, Jmp, Halt}
use Rattle.blizzard_guard.specs.declared.guarding.GuardOp.{GuardOp}
use Rattle.blizzard_guard.specs.declared.guarding.GuardOp.TheVariants.{Check, Do}
use Rattle.blizzard_guard.specs.declared.guarding.Guarded.{Guarded}
use Rattle.blizzard_guard.specs.Guarding.{check_of, first_op, moved, guarded, plain_place, plain_of}
use Rattle.blizzard_guard.specs.Running.{on_plain, IsOnGuarded, instr_here, instr_place}
use Rattle.blizzard_guard.proofs.Ops.{first_place, plain_first, plain_of-guarded}
use Rattle.blizzard_guard.proofs.Standing.{Standing, AtEnd, AtPlain, AtAccess, is_instr, no_instr, instr_of, registers_moved}

-- ---- places of ops

first_zero : (p : List Instr) → first_op p 0 ≡ 0
first_zero [] = refl
first_zero (i ∷ is) = refl

next_first : (p : List Instr) (k : ℕ) (i : Instr) → slice_get p k ≡ Some i
    → first_op p (suc k) ≡ first_op p k + (length (check_of i) + 1)
next_first [] k i e = cc
next_first (x ∷ is) zero i e =
    let same : x ≡ i = cc in
    ap (λ n. length (check_of x) + 1 + n) (first_zero is) ∙ ap (λ (j : Instr). length (check_of j) + 1 + 0) same ∙ omega arith
next_first (x ∷ is) (suc k) i e = let more = next_first is k i e in ap (λ n. length (check_of x) + 1 + n) more ∙ omega arith

one_check : (i : Instr) → length (check_of i) ≤ 1
one_check (Ld d a n) = omega arith
one_check _ = omega arith

few_ops : (p : List Instr) (k : ℕ) → first_op p k ≤ 2 * length p
few_ops [] k = omega arith
few_ops (i ∷ is) zero = omega arith
few_ops (i ∷ is) (suc k) = omega (arith, one_check i, few_ops is k)

-- there is room behind an op
pub room : (g : Guarded) (cpu : Cpu) → IsOnGuarded g cpu → cpu.place + 2 < 2 ^ 32
room g cpu on =
    let few : first_op (plain_of g) (plain_place g cpu.place) ≤ 2 * length (plain_of g) = few_ops (plain_of g)
    (plain_place g cpu.place) in
    let short : length (plain_of g) ≤ 4096 = on.valid.short in
    let there : cpu.place ≡ first_op (plain_of g) (plain_place g cpu.place) = on.there in
    omega arith

pub behind_le : (o : Option GuardOp) (at : ℕ) → instr_place o at ≤ at + 1
behind_le None at = omega arith
behind_le (Some (Check store base offset)) at = omega arith
behind_le (Some (Do i)) at = omega arith

-- ---- one instruction

written_moved : (f : ℕ → ℕ) (i : Instr) (regs : List ℕ) (loaded : ℕ) → written (moved f i) regs loaded ≡ written i regs loaded
written_moved f (Beq a b place) regs loaded = refl
written_moved f _ regs loaded = refl

taken : (f : ℕ → ℕ) (b : Bool) (to at after : ℕ) → f at ≡ after → (if b then f to else after) ≡ f (if b then to else at)
taken f true to at after e = refl
taken f false to at after e = sym e

passed : (f : ℕ → ℕ) (b : Bool) (to at after : ℕ) → f at ≡ after → (if b then after else f to) ≡ f (if b then at else to)
passed f true to at after e = sym e
passed f false to at after e = refl

-- the place after it, where its own is behind its check
place_moved : (f : ℕ → ℕ) (i : Instr) (regs : List ℕ) (k place : ℕ) → place ≡ f k + length (check_of i) → f (k + 1) ≡ place + 1
    → place_after (moved f i) regs place ≡ f (place_after i regs k)
place_moved f (Beq a b to) regs k place here next =
    taken f (slice_index regs a == slice_index regs b) to (k + 1) (place + 1) next
place_moved f (Bne a b to) regs k place here next =
    passed f (slice_index regs a == slice_index regs b) to (k + 1) (place + 1) next
place_moved f (Blt a b to) regs k place here next =
    taken f (nat_lt (slice_index regs a) (slice_index regs b)) to (k + 1) (place + 1) next
place_moved f (Jmp to) regs k place here next = refl
place_moved f Halt regs k place here next = here ∙ add-zero (f k)
place_moved f _ regs k place here next = sym next

either_le : (b : Bool) (x y end : ℕ) → x ≤ end → y ≤ end → (if b then x else y) ≤ end
either_le true x y end h k = h
either_le false x y end h k = k

after_within : (i : Instr) (regs : List ℕ) (k end : ℕ) → GoesWithin end i → k < end → place_after i regs k ≤ end
after_within (Beq a b to) regs k end w h = either_le (slice_index regs a == slice_index regs b) to (k + 1) end w (omega arith)
after_within (Bne a b to) regs k end w h = either_le (slice_index regs a == slice_index regs b) (k + 1) to end (omega arith) w
after_within (Blt a b to) regs k end w h =
    either_le (nat_lt (slice_index regs a) (slice_index regs b)) to (k + 1) end w (omega arith)
after_within (Jmp to) regs k end w h = w
after_within _ regs k end w h = omega arith

-- ---- a processor

-- what the code finds behind the check of a processor's place
pub record Found (p : List Instr) (k : ℕ) (place : ℕ) (j : Instr) : Type 0 where
  pub i : Instr
  pub there : slice_get p k ≡ Some i
  pub moves : j ≡ moved (first_op p) i
  pub behind : place ≡ first_op p k + length (check_of i)

pub found : (p : List Instr) (k : ℕ) (ops : List GuardOp) (at place : ℕ) (j : Instr) → at ≡ first_op p k → Standing p k ops at
    → place ≡ instr_place (slice_get ops at) at → instr_here (slice_get ops place) ≡ Some j → Found p k place j
found p k ops at place j first (AtEnd e here) is read =
    let op : slice_get ops place ≡ Some (Do j) = is_instr (slice_get ops place) j read in
    let same : place ≡ at = is ∙ ap (λ (o : Option GuardOp). instr_place o at) here in
    let none : slice_get ops place ≡ None = ap (slice_get ops) same ∙ here in
    absurd (cc)
found p k ops at place j first (AtPlain i e check here) is read =
    let op : slice_get ops place ≡ Some (Do j) = is_instr (slice_get ops place) j read in
    let same : place ≡ at = is ∙ ap (λ (o : Option GuardOp). instr_place o at) here in
    let some : slice_get ops place ≡ Some (Do (moved (first_op p) i)) = ap (slice_get ops) same ∙ here in
    record {
      i = i;
      there = e;
      moves = cc;
      behind = same ∙ first ∙ sym (ap (λ (cs : List GuardOp). first_op p k + length cs) check ∙ add-zero (first_op p k));
    }
found p k ops at place j first (AtAccess i store base offset e check here next) is read =
    let op : slice_get ops place ≡ Some (Do j) = is_instr (slice_get ops place) j read in
    let same : place ≡ at + 1 = is ∙ ap (λ (o : Option GuardOp). instr_place o at) here in
    let some : slice_get ops place ≡ Some (Do (moved (first_op p) i)) = ap (slice_get ops) same ∙ next in
    record {
      i = i;
      there = e;
      moves = cc;
      behind = same ∙ ap (λ n. n + 1) first ∙ sym (ap (λ (cs : List GuardOp). first_op p k + length cs) check);
    }

-- the place after an instruction, in the ops and in the program
pub record Moves (g : Guarded) (after k : ℕ) : Type 0 where
  pub op : after ≡ first_op (plain_of g) k
  pub plain : plain_place g after ≡ k
  pub within : k ≤ length (plain_of g)

moves : (g : Guarded) (cpu : Cpu) (place : ℕ) (j : Instr) → IsOnGuarded g cpu
    → (f : Found (plain_of g) (plain_place g cpu.place) place j)
    → Moves g (place_after j cpu.regs place) (place_after f.i cpu.regs (plain_place g cpu.place))
moves g cpu place j on f =
    let p = plain_of g in
    let k = plain_place g cpu.place in
    let next : first_op p (k + 1) ≡ place + 1 = rw (add-one k) (next_first p k f.i f.there ∙ let b = f.behind in omega arith) in
    let within : place_after f.i cpu.regs k ≤ length p = after_within f.i cpu.regs k (length p)
    (instr_of p k f.i on.valid f.there).1 (slice_get_within p k f.i f.there) in
    let op : place_after j cpu.regs place ≡ first_op p (place_after f.i cpu.regs k) =
    ap (λ (x : Instr). place_after x cpu.regs place) f.moves ∙ place_moved (first_op p) f.i cpu.regs k place f.behind next in
    record {
      op = op;
      plain = ap (plain_place g) op ∙ ap (λ (h : Guarded). plain_place h (first_op p (place_after f.i cpu.regs k))) on.same
          ∙ plain_first p (place_after f.i cpu.regs k) within;
      within = within;
    }

-- it stands at an op again
pub stays : (g : Guarded) (cpu : Cpu) (place loaded : ℕ) (j : Instr) → IsOnGuarded g cpu
    → Found (plain_of g) (plain_place g cpu.place) place j
    → IsOnGuarded g (completed (Some j) (record { regs = cpu.regs; place = place }) loaded)
stays g cpu place loaded j on f =
    let m = moves g cpu place j on f in
    record {
      same = on.same;
      valid = on.valid;
      within = subst (λ n. n ≤ length (plain_of g)) (sym m.plain) m.within;
      there = m.op ∙ ap (first_op (plain_of g)) (sym m.plain);
    }

-- and has done what the plain processor does
pub does : (g : Guarded) (cpu : Cpu) (place loaded : ℕ) (j : Instr) → IsOnGuarded g cpu
    → Found (plain_of g) (plain_place g cpu.place) place j
    → (on_plain g (completed (Some j) (record { regs = cpu.regs; place = place }) loaded)).cpu ≡ finish_of (plain_of g)
    (on_plain g cpu).cpu loaded
does g cpu place loaded j on f =
    let m = moves g cpu place j on f in
    let k = plain_place g cpu.place in
    let regs : with_written (written j cpu.regs loaded) cpu.regs ≡ with_written (written f.i cpu.regs loaded) cpu.regs =
    ap (λ (w : Option (ℕ × ℕ)). with_written w cpu.regs) (ap (λ (x : Instr). written x cpu.regs loaded) f.moves
    ∙ written_moved (first_op (plain_of g)) f.i cpu.regs loaded) in
    let cpu' : Cpu = record { regs = cpu.regs; place = k } in
    let place' = plain_place g (place_after j cpu.regs place) in
    let regs' = with_written (written j cpu.regs loaded) cpu.regs in
    let done : ◌≡◌ {A = Cpu} (record { regs = regs'; place = place' }) (completed (Some f.i) cpu' loaded) =
    rw (regs, m.plain) refl in
    done ∙ sym (ap (λ (o : Option Instr). completed o cpu' loaded) f.there)

-- its registers are in range
pub registers_found : (p : List Instr) (k place : ℕ) (j : Instr) → IsProgram p → Found p k place j → HasRegisters j
registers_found p k place j valid f = subst HasRegisters (sym f.moves)
    (registers_moved (first_op p) f.i (instr_of p k f.i valid f.there).0)

-- where no instruction stands behind the check, the place is the end
pub at_end : (p : List Instr) (k : ℕ) (ops : List GuardOp) (at place : ℕ) (cpu : Cpu) (loaded : ℕ) → Standing p k ops at
    → place ≡ instr_place (slice_get ops at) at → instr_here (slice_get ops place) ≡ None
    → completed (slice_get p k) cpu loaded ≡ cpu
at_end p k ops at place cpu loaded (AtEnd e here) is none = ap (λ (o : Option Instr). completed o cpu loaded) e
at_end p k ops at place cpu loaded (AtPlain i e check here) is none =
    let same : place ≡ at = is ∙ ap (λ (o : Option GuardOp). instr_place o at) here in
    absurd (no_instr (slice_get ops place) (moved (first_op p) i) none (ap (slice_get ops) same ∙ here))
at_end p k ops at place cpu loaded (AtAccess i store base offset e check here next) is none =
    let same : place ≡ at + 1 = is ∙ ap (λ (o : Option GuardOp). instr_place o at) here in
    absurd (no_instr (slice_get ops place) (moved (first_op p) i) none (ap (slice_get ops) same ∙ next))

-- ---- the start

-- a processor at the start of a program stands at its first op
pub starts : (p : List Instr) (g : Guarded) (cpu : Cpu) → IsProgram p → g ≡ guarded p → cpu ≡ first_cpu → IsOnGuarded g cpu
starts p g cpu valid made new =
    let plain : plain_of (guarded p) ≡ p = plain_of-guarded p valid in
    let first : plain_place (guarded p) 0 ≡ 0 = first_place 0 p in
    rw (made, new) (record {
      same = sym (ap guarded plain);
      valid = rw plain valid;
      within = rw first (omega arith);
      there = sym (ap (first_op (plain_of (guarded p))) first ∙ first_zero (plain_of (guarded p)));
    })

pub starts_plain : (p : List Instr) (g : Guarded) (cpu : Cpu) → IsProgram p → g ≡ guarded p → cpu ≡ first_cpu
    → on_plain g cpu ≡ record { program = p; cpu = first_cpu }
starts_plain p g cpu valid made new =
    let plain : plain_of (guarded p) ≡ p = plain_of-guarded p valid in
    let first : plain_place (guarded p) 0 ≡ 0 = first_place 0 p in
    rw (made, new) (rw (plain, first) refl)
