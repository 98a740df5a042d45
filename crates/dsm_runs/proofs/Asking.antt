-- An instruction asks for words of the memory alone.
use Rattle.std.proofs.Common.{◌≡◌, ℕ, ◌+◌, nat_lt, Bool, true, false, if◌then◌else◌, List, Option, Some, None, refl, subst}
use Rattle.std.specs.Prelude.{slice_get, slice_index}
use Rattle.std.proofs.lemmas.Bool.{ltb-true}
use Rattle.mini_asm.specs.Machine.{asks, wrap}
use Rattle.mini_asm.specs.declared.cpu.Cpu.{Cpu}
use Rattle.mini_asm.specs.declared.cpu.Next.{Next}
use Rattle.mini_asm.specs.declared.cpu.Next.TheVariants as next
use Rattle.mini_asm.specs.declared.instr.Instr.{Instr}
use Rattle.mini_asm.specs.declared.instr.Instr.TheVariants.{Li, Mov, Add, Sub, And, Or, Xor, Ld, St, Beq, Bne, Blt, Jmp, Print}
use Rattle.mini_asm.specs.declared.instr.Instr.TheVariants.{Halt, Faa}
use Rattle.tw_base.specs.declared.entry.Trap.TheVariants.{BadAddress}
use Rattle.dsm_runs.specs.Setups.{Setup, asked, program_at, size_of}
pub use Rattle.dsm_runs.specs.Shown.{AsksWell}

load_well : (address size : ℕ) (b : Bool) → nat_lt address size ≡ b →
    AsksWell size (if b then next.Access false address 0 else next.Trap BadAddress)
load_well address size true h = (ltb-true address size h, refl)
load_well address size false h = tt

store_well : (address value size : ℕ) (b : Bool) → nat_lt address size ≡ b →
    AsksWell size (if b then next.Access true address value else next.Trap BadAddress)
store_well address value size true h = ltb-true address size h
store_well address value size false h = tt

faa_well : (address added size : ℕ) (b : Bool) → nat_lt address size ≡ b →
    AsksWell size (if b then next.Faa address added else next.Trap BadAddress)
faa_well address added size true h = ltb-true address size h
faa_well address added size false h = tt

asks_well : (o : Option Instr) (regs : List ℕ) (size : ℕ) → AsksWell size (asks o regs size)
asks_well None regs size = tt
asks_well (Some (Li d n)) regs size = tt
asks_well (Some (Mov d a)) regs size = tt
asks_well (Some (Add d a b)) regs size = tt
asks_well (Some (Sub d a b)) regs size = tt
asks_well (Some (And d a b)) regs size = tt
asks_well (Some (Or d a b)) regs size = tt
asks_well (Some (Xor d a b)) regs size = tt
asks_well (Some (Ld d a n)) regs size = load_well (wrap (slice_index regs a + n)) size
    (nat_lt (wrap (slice_index regs a + n)) size) refl
asks_well (Some (St s a n)) regs size = store_well (wrap (slice_index regs a + n)) (slice_index regs s) size
    (nat_lt (wrap (slice_index regs a + n)) size) refl
asks_well (Some (Beq a b place)) regs size = tt
asks_well (Some (Bne a b place)) regs size = tt
asks_well (Some (Blt a b place)) regs size = tt
asks_well (Some (Jmp place)) regs size = tt
asks_well (Some (Print a)) regs size = tt
asks_well (Some Halt) regs size = tt
asks_well (Some (Faa d s a n)) regs size = faa_well (wrap (slice_index regs a + n)) (slice_index regs s) size
    (nat_lt (wrap (slice_index regs a + n)) size) refl

pub asked_well : (s : Setup) (me : ℕ) (cpu : Cpu) (n : Next) → asked s me cpu ≡ n → AsksWell (size_of s) n
asked_well s me cpu n e = subst (λ (x : Next). AsksWell (size_of s) x) e
    (asks_well (slice_get (program_at s me) cpu.place) cpu.regs (size_of s))
