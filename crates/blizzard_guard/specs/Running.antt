-- A processor on a guarded program, seen as the processor of the plain one.
use Rattle.std.specs.Prelude.{◌≡◌, ℕ, ◌+◌, ◌*◌, ◌<◌, ◌≤◌, Bool, true, false, List, length, Option, Some, None}
use Rattle.block_tags.specs.Copies.{Copies, allows}
use Rattle.mini_asm.specs.Programs.{IsProgram}
use Rattle.mini_asm.specs.declared.cpu.Cpu.{Cpu}
use Rattle.mini_asm.specs.declared.cpu.Next.{Next}
use Rattle.mini_asm.specs.declared.cpu.Next.TheVariants as nexts
use Rattle.mini_asm.specs.declared.instr.Instr.{Instr}
use Rattle.blizzard_guard.specs.declared.guarding.GuardOp.{GuardOp}
use Rattle.blizzard_guard.specs.declared.guarding.GuardOp.TheVariants.{Check, Do}
use Rattle.blizzard_guard.specs.declared.guarding.Guarded.{Guarded}
use Rattle.blizzard_guard.specs.declared.processor.Look.{Look}
use Rattle.blizzard_guard.specs.declared.processor.Look.TheVariants.{Refused, Goes}
use Rattle.blizzard_guard.specs.Guarding.{first_op, guarded, plain_place, plain_of}

-- a plain program, and a processor of it
pub record OnProgram : Type 0 where
  pub program : List Instr
  pub cpu : Cpu

-- the plain program and processor that a guarded program and a processor at one of its ops stand for
abbrev pub on_plain : Guarded → Cpu → OnProgram
on_plain g cpu = record { program = plain_of g; cpu = record { regs = cpu.regs; place = plain_place g cpu.place } }

-- a processor that stands at the first op of an instruction, or after the last op
pub record IsOnGuarded (g : Guarded) (cpu : Cpu) : Type 0 where
  pub same : g ≡ guarded (plain_of g)
  pub valid : IsProgram (plain_of g)
  pub within : plain_place g cpu.place ≤ length (plain_of g)
  pub there : cpu.place ≡ first_op (plain_of g) (plain_place g cpu.place)

-- ---- what stands at a place

-- whether it stores, its register and its number, where it is a check
abbrev pub check_here : Option GuardOp → Option (Bool × ℕ × ℕ)
check_here None = None
check_here (Some (Check store base offset)) = Some (store, base, offset)
check_here (Some (Do i)) = None

-- the instruction, where it is one
abbrev pub instr_here : Option GuardOp → Option Instr
instr_here None = None
instr_here (Some (Check store base offset)) = None
instr_here (Some (Do i)) = Some i

-- the place of an instruction, behind its check
abbrev pub instr_place : Option GuardOp → ℕ → ℕ
instr_place None at = at
instr_place (Some (Check store base offset)) at = at + 1
instr_place (Some (Do i)) at = at

-- ---- what a look finds

-- the instruction is an access of this word: a store (true), which a fetch and add is too, or a load
abbrev pub IsAccessOf : Next → Bool → ℕ → Type 0
IsAccessOf (nexts.Access stores at value) store address = (store ≡ stores) × (address ≡ at)
IsAccessOf (nexts.Faa at added) store address = (store ≡ true) × (address ≡ at)
IsAccessOf (nexts.Trap why) store address = ⊥
IsAccessOf nexts.Halt store address = ⊥
IsAccessOf (nexts.Print value) store address = ⊥
IsAccessOf nexts.Step store address = ⊥

-- an access of a word of the memory, whose block's tag gives this answer
pub record IsAnswered (m : Copies) (store : Bool) (address : ℕ) (answer : Bool) : Type 0 where
  pub good : address < m.shape.words * m.shape.blocks
  pub tag : allows m store address ≡ answer

-- an address past the memory, or one whose block's tag allows it
abbrev pub MayGoAt : Copies → Bool → ℕ → Type 0
MayGoAt m store address = address < m.shape.words * m.shape.blocks → allows m store address ≡ true

-- what the instruction asks for may be done: an access is of a word of the memory, and its block's tag allows it
abbrev pub MayGo : Copies → Next → Type 0
MayGo m (nexts.Access store address value) = IsAnswered m store address true
MayGo m (nexts.Faa address added) = IsAnswered m true address true
MayGo m (nexts.Trap why) = Unit {0}
MayGo m nexts.Halt = Unit {0}
MayGo m (nexts.Print value) = Unit {0}
MayGo m nexts.Step = Unit {0}

-- what a look at an instruction finds: that a tag refuses its access, or what it asks for, where nothing refuses it
abbrev pub LookedAt : Next → Copies → Look → Type 0
LookedAt n m (Refused store address) = IsAccessOf n store address × IsAnswered m store address false
LookedAt n m (Goes asked) = (asked ≡ n) × MayGo m asked
