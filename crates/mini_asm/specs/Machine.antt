-- One processor, one instruction at a time.
use Rattle.std.specs.Prelude.{ℕ, ◌+◌, ◌-◌, ◌%◌, ◌^◌, ◌==◌, if◌then◌else◌, nat_lt, slice_get, slice_set, slice_index, bit_and}
use Rattle.std.specs.Prelude.{bit_or, bit_xor, Bool, true, false, List, Option, Some, None}
use Rattle.tw_base.specs.declared.entry.Trap.TheVariants.{BadAddress, FellOff}
use Rattle.mini_asm.specs.declared.instr.Instr.{Instr}
use Rattle.mini_asm.specs.declared.instr.Instr.TheVariants.{Li, Mov, Add, Sub, And, Or, Xor, Ld, St, Beq, Bne, Blt, Jmp, Print}
use Rattle.mini_asm.specs.declared.instr.Instr.TheVariants.{Halt, Faa}
use Rattle.mini_asm.specs.declared.cpu.Cpu.{Cpu}
use Rattle.mini_asm.specs.declared.cpu.Next.{Next}
use Rattle.mini_asm.specs.declared.cpu.Next.TheVariants as nexts

-- arithmetic is modulo 2^64
abbrev pub wrap : ℕ → ℕ
wrap n = n % 2 ^ 64

abbrev pub access : Bool → ℕ → ℕ → ℕ → Next
access store address value size = if nat_lt address size then nexts.Access store address value else nexts.Trap BadAddress

abbrev pub fetch_and_add : ℕ → ℕ → ℕ → Next
fetch_and_add address added size = if nat_lt address size then nexts.Faa address added else nexts.Trap BadAddress

-- what an instruction asks for, in a memory of this many words
abbrev pub asks : Option Instr → List ℕ → ℕ → Next
asks None regs size = nexts.Trap FellOff
asks (Some (Li d n)) regs size = nexts.Step
asks (Some (Mov d a)) regs size = nexts.Step
asks (Some (Add d a b)) regs size = nexts.Step
asks (Some (Sub d a b)) regs size = nexts.Step
asks (Some (And d a b)) regs size = nexts.Step
asks (Some (Or d a b)) regs size = nexts.Step
asks (Some (Xor d a b)) regs size = nexts.Step
asks (Some (Ld d a n)) regs size = access false (wrap (slice_index regs a + n)) 0 size
asks (Some (St s a n)) regs size = access true (wrap (slice_index regs a + n)) (slice_index regs s) size
asks (Some (Beq a b place)) regs size = nexts.Step
asks (Some (Bne a b place)) regs size = nexts.Step
asks (Some (Blt a b place)) regs size = nexts.Step
asks (Some (Jmp place)) regs size = nexts.Step
asks (Some (Print a)) regs size = nexts.Print (slice_index regs a)
asks (Some Halt) regs size = nexts.Halt
asks (Some (Faa d s a n)) regs size = fetch_and_add (wrap (slice_index regs a + n)) (slice_index regs s) size

abbrev pub next_of : List Instr → Cpu → ℕ → Next
next_of program cpu size = asks (slice_get program cpu.place) cpu.regs size

-- the register that an instruction writes, and what, where it loaded this word
abbrev pub written : Instr → List ℕ → ℕ → Option (ℕ × ℕ)
written (Li d n) regs loaded = Some (d, n)
written (Mov d a) regs loaded = Some (d, slice_index regs a)
written (Add d a b) regs loaded = Some (d, wrap (slice_index regs a + slice_index regs b))
written (Sub d a b) regs loaded = Some (d, wrap (slice_index regs a + 2 ^ 64 - slice_index regs b))
written (And d a b) regs loaded = Some (d, bit_and (slice_index regs a) (slice_index regs b))
written (Or d a b) regs loaded = Some (d, bit_or (slice_index regs a) (slice_index regs b))
written (Xor d a b) regs loaded = Some (d, bit_xor (slice_index regs a) (slice_index regs b))
written (Ld d a n) regs loaded = Some (d, loaded)
written (Faa d s a n) regs loaded = Some (d, loaded)
written (St s a n) regs loaded = None
written (Beq a b place) regs loaded = None
written (Bne a b place) regs loaded = None
written (Blt a b place) regs loaded = None
written (Jmp place) regs loaded = None
written (Print a) regs loaded = None
written Halt regs loaded = None

-- register 0 stays 0
abbrev pub set_reg : List ℕ → ℕ → ℕ → List ℕ
set_reg regs d value = if d == 0 then regs else slice_set regs d value

abbrev pub with_written : Option (ℕ × ℕ) → List ℕ → List ℕ
with_written None regs = regs
with_written (Some w) regs = set_reg regs w.0 w.1

-- the place after an instruction; numbers are compared without sign
abbrev pub place_after : Instr → List ℕ → ℕ → ℕ
place_after (Beq a b place) regs at = if slice_index regs a == slice_index regs b then place else at + 1
place_after (Bne a b place) regs at = if slice_index regs a == slice_index regs b then at + 1 else place
place_after (Blt a b place) regs at = if nat_lt (slice_index regs a) (slice_index regs b) then place else at + 1
place_after (Jmp place) regs at = place
place_after Halt regs at = at
place_after (Li d n) regs at = at + 1
place_after (Mov d a) regs at = at + 1
place_after (Add d a b) regs at = at + 1
place_after (Sub d a b) regs at = at + 1
place_after (And d a b) regs at = at + 1
place_after (Or d a b) regs at = at + 1
place_after (Xor d a b) regs at = at + 1
place_after (Ld d a n) regs at = at + 1
place_after (St s a n) regs at = at + 1
place_after (Print a) regs at = at + 1
place_after (Faa d s a n) regs at = at + 1

abbrev pub completed : Option Instr → Cpu → ℕ → Cpu
completed None cpu loaded = cpu
completed (Some i) cpu loaded = record {
  regs = with_written (written i cpu.regs loaded) cpu.regs;
  place = place_after i cpu.regs cpu.place;
}

-- the processor after the instruction at its place, where it loaded this word
abbrev pub finish_of : List Instr → Cpu → ℕ → Cpu
finish_of program cpu loaded = completed (slice_get program cpu.place) cpu loaded
