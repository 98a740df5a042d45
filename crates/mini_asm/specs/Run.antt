-- Several processors over one list of words: no blocks, no tags, no messages.
use Rattle.std.specs.Prelude.{◌≡◌, ℕ, ◌+◌, ◌*◌, ◌<◌, slice_get, slice_set, slice_index, Bool, true, false, List, [], ◌∷◌}
use Rattle.std.specs.Prelude.{length, Option, Some, None, replicate}
use Rattle.tw_base.specs.Answers.{◌>>?◌}
use Rattle.tw_base.specs.Lists.{Each}
use Rattle.tw_base.specs.Shape.{Sizes}
use Rattle.tw_base.specs.declared.entry.Act.{Act}
use Rattle.tw_base.specs.declared.entry.Act.TheVariants as acts
use Rattle.mini_asm.specs.declared.cpu.Cpu.{Cpu}
use Rattle.mini_asm.specs.declared.cpu.Next.{Next}
use Rattle.mini_asm.specs.declared.cpu.Next.TheVariants as nexts
use Rattle.mini_asm.specs.declared.instr.Instr.{Instr}
use Rattle.mini_asm.specs.declared.processor.Core.{Core}
use Rattle.mini_asm.specs.declared.processor.FlatMode.{FlatMode}
use Rattle.mini_asm.specs.declared.processor.FlatMode.TheVariants.{Running, Halted, Trapped}
use Rattle.mini_asm.specs.Machine.{next_of, finish_of, wrap}

-- ---- a processor with the memory

-- what one instruction did, and what it left
pub record Ran : Type 0 where
  pub act : Act
  pub core : Core
  pub words : List ℕ

-- the instruction completes, having loaded this word
abbrev pub goes_on : Act → List Instr → Core → ℕ → List ℕ → Ran
goes_on act program core loaded words =
    record { act = act; core = record { cpu = finish_of program core.cpu loaded; mode = core.mode }; words = words }

-- the place stays
abbrev pub stops : Act → FlatMode → Core → List ℕ → Ran
stops act mode core words = record { act = act; core = record { cpu = core.cpu; mode = mode }; words = words }

abbrev pub done : Next → List Instr → Core → List ℕ → Ran
done (nexts.Access true address value) program core words = goes_on (acts.Store address value) program core 0
    (slice_set words address value)
done (nexts.Access false address value) program core words =
    goes_on (acts.Load address (slice_index words address)) program core (slice_index words address) words
done (nexts.Faa address added) program core words =
    let word = slice_index words address in
    goes_on (acts.Faa address word (wrap (word + added))) program core word (slice_set words address (wrap (word + added)))
done (nexts.Trap why) program core words = stops (acts.Trapped why) (Trapped why) core words
done nexts.Halt program core words = stops acts.Halt Halted core words
done (nexts.Print value) program core words = goes_on (acts.Print value) program core 0 words
done nexts.Step program core words = goes_on acts.Step program core 0 words

unfoldable pub run_one : List Instr → Core → List ℕ → Ran
run_one program core words = done (next_of program core.cpu (length words)) program core words

-- ---- all processors

pub record Machine : Type 0 where
  pub programs : List (List Instr)
  pub cores : List Core
  pub words : List ℕ

abbrev pub is_running_mode : FlatMode → Bool
is_running_mode Running = true
is_running_mode Halted = false
is_running_mode (Trapped why) = false

abbrev pub is_running_core : Option Core → Bool
is_running_core None = false
is_running_core (Some core) = is_running_mode core.mode

-- a node that has neither halted nor trapped
abbrev pub is_running : Machine → ℕ → Bool
is_running m node = is_running_core (slice_get m.cores node)

-- the word at an address, 0 past the end
abbrev pub word_of : Machine → ℕ → ℕ
word_of m address = slice_index m.words address

-- one instruction of a node: what it did, and the machine after it
abbrev pub step_of : Machine → ℕ → Option (Act × Machine)
step_of m node = slice_get m.programs node >>? λ program. slice_get m.cores node >>? λ core.
    let ran = run_one program core m.words in
    Some (ran.act, record { programs = m.programs; cores = slice_set m.cores node ran.core; words = ran.words })

-- ---- the start

abbrev pub first_cpu : Cpu
first_cpu = record { regs = replicate 16 0; place = 0 }

-- words with some of them given, by address
abbrev pub with_given : List (ℕ × ℕ) → List ℕ → List ℕ
with_given [] words = words
with_given (given ∷ rest) words = with_given rest (slice_set words given.0 given.1)

-- the words of memory at the start: 0 where none is given
abbrev pub first_words : ℕ → List (ℕ × ℕ) → List ℕ
first_words size init = with_given init (replicate size 0)

-- none of these is given for this address
abbrev pub IsApart : ℕ → List (ℕ × ℕ) → Type 0
IsApart address init = Each (λ given. ¬ (given.0 ≡ address)) init

-- each address is below the size, and given once
abbrev pub IsInit : ℕ → List (ℕ × ℕ) → Type 0
IsInit size [] = Unit {0}
IsInit size (given ∷ rest) = (given.0 < size) × IsApart given.0 rest × IsInit size rest

-- the machine before its first step
abbrev pub start_of : Sizes → List (ℕ × ℕ) → List (List Instr) → Machine
start_of sizes init programs = record {
  programs = programs;
  cores = replicate sizes.nodes (record { cpu = first_cpu; mode = Running });
  words = first_words (sizes.words * sizes.blocks) init;
}
