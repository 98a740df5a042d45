-- A processor whose numbers have 64 bits keeps them so.
use Rattle.std.proofs.Common.{◌≡◌, ℕ, zero, suc, ◌+◌, ◌-◌, ◌^◌, ◌<◌, ◌≤◌, ◌==◌, cond, Bool, true, false, List, [], ◌∷◌, length}
use Rattle.std.proofs.Common.{Option, Some, None, refl, subst, arith, mod-lt}
use Rattle.std.specs.Prelude.{nat_lt, slice_get, slice_index, slice_set}
use Rattle.std.specs.Int.Bits.{and_lt}
use Rattle.std.proofs.lemmas.Nat.{or_lt, xor_lt}
use Rattle.std.proofs.lemmas.Option.{slice_get_within}
use Rattle.tw_base.specs.Lists.{Each}
use Rattle.tw_base.specs.declared.entry.Trap.TheVariants.{BadAddress}
use Rattle.mini_asm.specs.declared.cpu.Cpu.{Cpu}
use Rattle.mini_asm.specs.declared.cpu.Next.{Next}
use Rattle.mini_asm.specs.declared.cpu.Next.TheVariants as next
use Rattle.mini_asm.specs.declared.instr.Instr.{Instr}
use Rattle.mini_asm.specs.declared.instr.Instr.TheVariants.{Li, Mov, Add, Sub, And, Or, Xor, Ld, St, Beq, Bne, Blt, Jmp, Print}
use Rattle.mini_asm.specs.declared.instr.Instr.TheVariants.{Halt, Faa}
use Rattle.mini_asm.specs.Machine.{access, asks, completed, fetch_and_add, finish_of, next_of, place_after, set_reg}
use Rattle.mini_asm.specs.Machine.{with_written, wrap, written}
use Rattle.mini_asm.specs.Programs.{GoesWithin}
use Rattle.printed_reports.specs.Named.{Small}
use Rattle.run_reports.specs.Numbers.{HasSmallNumber, IsSmallProgram}

-- ---- lists

pub each-set : {X : Type 0} (P : X → Type 0) (xs : List X) (i : ℕ) (v : X) → Each P xs → P v → Each P (slice_set xs i v)
each-set P [] i v h k = tt
each-set P (x ∷ xs) zero v (h, hs) k = (k, hs)
each-set P (x ∷ xs) (suc i) v (h, hs) k = (h, each-set P xs i v hs k)

pub each-get : {X : Type 0} (P : X → Type 0) (xs : List X) (i : ℕ) (x : X) → Each P xs → slice_get xs i ≡ Some x → P x
each-get P [] i x h e = absurd cc
each-get P (y ∷ ys) zero x (h, hs) e = let same : y ≡ x = cc in subst P same h
each-get P (y ∷ ys) (suc i) x (h, hs) e = each-get P ys i x hs e

pub small-index : (xs : List ℕ) (i : ℕ) → Each Small xs → Small (slice_index xs i)
small-index [] i h = omega arith
small-index (x ∷ xs) zero (h, hs) = h
small-index (x ∷ xs) (suc i) (h, hs) = small-index xs i hs

-- ---- an instruction

pub wrap-small : (n : ℕ) → Small (wrap n)
wrap-small n = mod-lt n (omega arith)

-- what is written
abbrev SmallWritten : Option (ℕ × ℕ) → Type 0
SmallWritten None = Unit {0}
SmallWritten (Some w) = Small w.1

written-small : (i : Instr) (regs : List ℕ) (loaded : ℕ) → HasSmallNumber i → Each Small regs → Small loaded
    → SmallWritten (written i regs loaded)
written-small (Li d n) regs loaded h rs l = h
written-small (Mov d a) regs loaded h rs l = small-index regs a rs
written-small (Add d a b) regs loaded h rs l = wrap-small (slice_index regs a + slice_index regs b)
written-small (Sub d a b) regs loaded h rs l = wrap-small (slice_index regs a + 2 ^ 64 - slice_index regs b)
written-small (And d a b) regs loaded h rs l = and_lt 64 (slice_index regs a) (slice_index regs b) (small-index regs a rs)
    (small-index regs b rs)
written-small (Or d a b) regs loaded h rs l = or_lt 64 (slice_index regs a) (slice_index regs b) (small-index regs a rs)
    (small-index regs b rs)
written-small (Xor d a b) regs loaded h rs l = xor_lt 64 (slice_index regs a) (slice_index regs b) (small-index regs a rs)
    (small-index regs b rs)
written-small (Ld d a n) regs loaded h rs l = l
written-small (Faa d s a n) regs loaded h rs l = l
written-small (St s a n) regs loaded h rs l = tt
written-small (Beq a b place) regs loaded h rs l = tt
written-small (Bne a b place) regs loaded h rs l = tt
written-small (Blt a b place) regs loaded h rs l = tt
written-small (Jmp place) regs loaded h rs l = tt
written-small (Print a) regs loaded h rs l = tt
written-small Halt regs loaded h rs l = tt

set-small : (regs : List ℕ) (d value : ℕ) → Each Small regs → Small value → Each Small (set_reg regs d value)
set-small regs d value h k = by (d == 0)
  where
    by : (b : Bool) → Each Small (cond b regs (slice_set regs d value))
    by true = h
    by false = each-set Small regs d value h k

with-small : (w : Option (ℕ × ℕ)) (regs : List ℕ) → SmallWritten w → Each Small regs → Each Small (with_written w regs)
with-small None regs h rs = rs
with-small (Some w) regs h rs = set-small regs w.0 w.1 rs h

-- the next place is in the program, or its end
place-within : (i : Instr) (regs : List ℕ) (at end : ℕ) → GoesWithin end i → at < end → place_after i regs at ≤ end
place-within (Beq a b place) regs at end h lt = by (slice_index regs a == slice_index regs b)
  where
    by : (v : Bool) → cond v place (at + 1) ≤ end
    by true = h
    by false = omega arith
place-within (Bne a b place) regs at end h lt = by (slice_index regs a == slice_index regs b)
  where
    by : (v : Bool) → cond v (at + 1) place ≤ end
    by true = omega arith
    by false = h
place-within (Blt a b place) regs at end h lt = by (nat_lt (slice_index regs a) (slice_index regs b))
  where
    by : (v : Bool) → cond v place (at + 1) ≤ end
    by true = h
    by false = omega arith
place-within (Jmp place) regs at end h lt = h
place-within Halt regs at end h lt = omega arith
place-within (Li d n) regs at end h lt = omega arith
place-within (Mov d a) regs at end h lt = omega arith
place-within (Add d a b) regs at end h lt = omega arith
place-within (Sub d a b) regs at end h lt = omega arith
place-within (And d a b) regs at end h lt = omega arith
place-within (Or d a b) regs at end h lt = omega arith
place-within (Xor d a b) regs at end h lt = omega arith
place-within (Ld d a n) regs at end h lt = omega arith
place-within (St s a n) regs at end h lt = omega arith
place-within (Print a) regs at end h lt = omega arith
place-within (Faa d s a n) regs at end h lt = omega arith

-- ---- a processor

pub record IsSmallCpu (program : List Instr) (cpu : Cpu) : Type 0 where
  pub regs : Each Small cpu.regs
  pub place : cpu.place ≤ length program

pub finished-regs : (program : List Instr) (cpu : Cpu) (loaded : ℕ) → Each HasSmallNumber program → Each Small cpu.regs
    → Small loaded → Each Small (finish_of program cpu loaded).regs
finished-regs program cpu loaded numbers h l = by (slice_get program cpu.place) refl
  where
    by : (o : Option Instr) → slice_get program cpu.place ≡ o → Each Small (completed o cpu loaded).regs
    by None e = h
    by (Some i) e = with-small (written i cpu.regs loaded) cpu.regs
        (written-small i cpu.regs loaded (each-get HasSmallNumber program cpu.place i numbers e) h l) h

finished-place : (program : List Instr) (cpu : Cpu) (loaded : ℕ) → Each (GoesWithin (length program)) program
    → cpu.place ≤ length program → (finish_of program cpu loaded).place ≤ length program
finished-place program cpu loaded within le = by (slice_get program cpu.place) refl
  where
    by : (o : Option Instr) → slice_get program cpu.place ≡ o → (completed o cpu loaded).place ≤ length program
    by None e = le
    by (Some i) e =
        place-within i cpu.regs cpu.place (length program) (each-get (GoesWithin (length program)) program cpu.place i within e)
        (slice_get_within program cpu.place i e)

pub finished-small : (program : List Instr) (cpu : Cpu) (loaded : ℕ) → IsSmallProgram program → IsSmallCpu program cpu
    → Small loaded → IsSmallCpu program (finish_of program cpu loaded)
finished-small program cpu loaded small h l = record {
  regs = finished-regs program cpu loaded small.numbers h.regs l;
  place = finished-place program cpu loaded small.within h.place;
}

-- what the next instruction asks for
abbrev pub SmallNext : Next → Type 0
SmallNext (next.Access store address value) = Small value
SmallNext (next.Faa address added) = Small added
SmallNext (next.Print value) = Small value
SmallNext (next.Trap why) = Unit {0}
SmallNext next.Halt = Unit {0}
SmallNext next.Step = Unit {0}

access-small : (store : Bool) (address value size : ℕ) → Small value → SmallNext (access store address value size)
access-small store address value size h = by (nat_lt address size)
  where
    by : (b : Bool) → SmallNext (cond b (next.Access store address value) (next.Trap BadAddress))
    by true = h
    by false = tt

add-small : (address added size : ℕ) → Small added → SmallNext (fetch_and_add address added size)
add-small address added size h = by (nat_lt address size)
  where
    by : (b : Bool) → SmallNext (cond b (next.Faa address added) (next.Trap BadAddress))
    by true = h
    by false = tt

asks-small : (o : Option Instr) (regs : List ℕ) (size : ℕ) → Each Small regs → SmallNext (asks o regs size)
asks-small None regs size h = tt
asks-small (Some (Ld d a n)) regs size h = access-small false (wrap (slice_index regs a + n)) 0 size (omega arith)
asks-small (Some (St s a n)) regs size h = access-small true (wrap (slice_index regs a + n)) (slice_index regs s) size
    (small-index regs s h)
asks-small (Some (Faa d s a n)) regs size h = add-small (wrap (slice_index regs a + n)) (slice_index regs s) size
    (small-index regs s h)
asks-small (Some (Print a)) regs size h = small-index regs a h
asks-small (Some (Li d n)) regs size h = tt
asks-small (Some (Mov d a)) regs size h = tt
asks-small (Some (Add d a b)) regs size h = tt
asks-small (Some (Sub d a b)) regs size h = tt
asks-small (Some (And d a b)) regs size h = tt
asks-small (Some (Or d a b)) regs size h = tt
asks-small (Some (Xor d a b)) regs size h = tt
asks-small (Some (Beq a b place)) regs size h = tt
asks-small (Some (Bne a b place)) regs size h = tt
asks-small (Some (Blt a b place)) regs size h = tt
asks-small (Some (Jmp place)) regs size h = tt
asks-small (Some Halt) regs size h = tt

pub next-small : (program : List Instr) (cpu : Cpu) (size : ℕ) → Each Small cpu.regs → SmallNext (next_of program cpu size)
next-small program cpu size h = asks-small (slice_get program cpu.place) cpu.regs size h
