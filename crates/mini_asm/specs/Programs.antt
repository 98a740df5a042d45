-- What a program is: instructions whose registers and places are in range.
use Rattle.std.specs.Prelude.{ℕ, ◌<◌, ◌≤◌, Bool, true, false, List, length, All}
use Rattle.std.specs.List.{list_any}
use Rattle.mini_asm.specs.declared.instr.Instr.{Instr}
use Rattle.mini_asm.specs.declared.instr.Instr.TheVariants.{Li, Mov, Add, Sub, And, Or, Xor, Ld, St, Beq, Bne, Blt, Jmp, Print}
use Rattle.mini_asm.specs.declared.instr.Instr.TheVariants.{Halt, Faa}

-- its registers are below 16
abbrev pub HasRegisters : Instr → Type 0
HasRegisters (Li d n) = d < 16
HasRegisters (Mov d a) = (d < 16) × (a < 16)
HasRegisters (Add d a b) = (d < 16) × (a < 16) × (b < 16)
HasRegisters (Sub d a b) = (d < 16) × (a < 16) × (b < 16)
HasRegisters (And d a b) = (d < 16) × (a < 16) × (b < 16)
HasRegisters (Or d a b) = (d < 16) × (a < 16) × (b < 16)
HasRegisters (Xor d a b) = (d < 16) × (a < 16) × (b < 16)
HasRegisters (Ld d a n) = (d < 16) × (a < 16)
HasRegisters (St s a n) = (s < 16) × (a < 16)
HasRegisters (Beq a b place) = (a < 16) × (b < 16)
HasRegisters (Bne a b place) = (a < 16) × (b < 16)
HasRegisters (Blt a b place) = (a < 16) × (b < 16)
HasRegisters (Jmp place) = Unit {0}
HasRegisters (Print a) = a < 16
HasRegisters Halt = Unit {0}
HasRegisters (Faa d s a n) = (d < 16) × (s < 16) × (a < 16)

-- it goes to no place past this one
abbrev pub GoesWithin : ℕ → Instr → Type 0
GoesWithin end (Beq a b place) = place ≤ end
GoesWithin end (Bne a b place) = place ≤ end
GoesWithin end (Blt a b place) = place ≤ end
GoesWithin end (Jmp place) = place ≤ end
GoesWithin end (Li d n) = Unit {0}
GoesWithin end (Mov d a) = Unit {0}
GoesWithin end (Add d a b) = Unit {0}
GoesWithin end (Sub d a b) = Unit {0}
GoesWithin end (And d a b) = Unit {0}
GoesWithin end (Or d a b) = Unit {0}
GoesWithin end (Xor d a b) = Unit {0}
GoesWithin end (Ld d a n) = Unit {0}
GoesWithin end (St s a n) = Unit {0}
GoesWithin end (Print a) = Unit {0}
GoesWithin end Halt = Unit {0}
GoesWithin end (Faa d s a n) = Unit {0}

-- an instruction of a program that has this end
abbrev pub IsInstr : ℕ → Instr → Type 0
IsInstr end i = HasRegisters i × GoesWithin end i

pub record IsProgram (instrs : List Instr) : Type 0 where
  pub short : length instrs ≤ 4096
  pub each : All (IsInstr (length instrs)) instrs

-- ---- fetch and add, which the first version has not

abbrev pub is_faa : Instr → Bool
is_faa (Li d n) = false
is_faa (Mov d a) = false
is_faa (Add d a b) = false
is_faa (Sub d a b) = false
is_faa (And d a b) = false
is_faa (Or d a b) = false
is_faa (Xor d a b) = false
is_faa (Ld d a n) = false
is_faa (St s a n) = false
is_faa (Beq a b place) = false
is_faa (Bne a b place) = false
is_faa (Blt a b place) = false
is_faa (Jmp place) = false
is_faa (Print a) = false
is_faa Halt = false
is_faa (Faa d s a n) = true

-- whether some instruction of a program is a fetch-and-add
abbrev pub has_faa : List Instr → Bool
has_faa program = list_any is_faa program
