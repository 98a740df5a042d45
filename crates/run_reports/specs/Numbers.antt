-- A run whose programs and first words have numbers of 64 bits has no others.
use Rattle.std.specs.Prelude.{◌≡◌, ◌≤◌, ℕ, true, length, List}
use Rattle.tw_base.specs.Lists.{Each}
use Rattle.tw_base.specs.declared.entry.Entry.{Entry}
use Rattle.mini_asm.specs.declared.instr.Instr.{Instr}
use Rattle.mini_asm.specs.declared.instr.Instr.TheVariants.{Li, Mov, Add, Sub, And, Or, Xor, Ld, St, Beq, Bne, Blt, Jmp, Print}
use Rattle.mini_asm.specs.declared.instr.Instr.TheVariants.{Halt, Faa}
use Rattle.mini_asm.specs.Programs.{GoesWithin}
use Rattle.dsm_runs.specs.Setups.{IsSetup, Setup}
use Rattle.dsm_runs.specs.Worlds.{Runs, World, start}
use Rattle.journal.specs.declared.reports.Options.{Options}
use Rattle.journal.specs.Finals.{counted_finals}
use Rattle.journal.specs.Gathered.{words_of}
use Rattle.journal.specs.History.{first_break}
use Rattle.printed_reports.specs.Named.{AreSmall, HasSmallCounts, Small}

-- the number that an instruction puts into a register; addresses are taken modulo 2^64
abbrev pub HasSmallNumber : Instr → Type 0
HasSmallNumber (Li d n) = Small n
HasSmallNumber (Mov d a) = Unit {0}
HasSmallNumber (Add d a b) = Unit {0}
HasSmallNumber (Sub d a b) = Unit {0}
HasSmallNumber (And d a b) = Unit {0}
HasSmallNumber (Or d a b) = Unit {0}
HasSmallNumber (Xor d a b) = Unit {0}
HasSmallNumber (Ld d a n) = Unit {0}
HasSmallNumber (St s a n) = Unit {0}
HasSmallNumber (Beq a b place) = Unit {0}
HasSmallNumber (Bne a b place) = Unit {0}
HasSmallNumber (Blt a b place) = Unit {0}
HasSmallNumber (Jmp place) = Unit {0}
HasSmallNumber (Print a) = Unit {0}
HasSmallNumber Halt = Unit {0}
HasSmallNumber (Faa d s a n) = Unit {0}

-- a program that goes to places of its own, with numbers of 64 bits
pub record IsSmallProgram (program : List Instr) : Type 0 where
  pub short : length program ≤ 4096
  pub within : Each (GoesWithin (length program)) program
  pub numbers : Each HasSmallNumber program

pub record HasSmallNumbers (s : Setup) : Type 0 where
  pub programs : Each IsSmallProgram s.programs
  pub init : Each (λ given. Small given.1) s.init

-- What is told of a run has numbers of 64 bits where its setup has, and the ops and records that were counted, if they are
-- told.
abbrev pub NumbersOfRunsAreSmall : Type 0
NumbersOfRunsAreSmall =
    (s : Setup) (j : List Entry) (g : World) (ops records : ℕ → ℕ) (o : Options) → IsSetup s → HasSmallNumbers s
    → Runs s (start s) j g →
    (o.counts ≡ true → Each HasSmallCounts (counted_finals s g ops records)) →
    AreSmall j (counted_finals s g ops records) (words_of s g) (first_break s j) o
