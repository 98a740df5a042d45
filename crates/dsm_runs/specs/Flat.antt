-- A state of a run beside the flat machine: one memory, no blocks, no messages. What an event does there.
use Rattle.std.specs.Prelude.{◌≡◌, ℕ, ◌<◌, if◌then◌else◌, Bool, true, false, length, List, [], ◌∷◌, Option, Some, None}
use Rattle.std.specs.Prelude.{slice_get, slice_index, slice_set}
use Rattle.tw_base.specs.declared.entry.Act.{Act}
use Rattle.tw_base.specs.declared.entry.Act.TheVariants as act
use Rattle.tw_base.specs.declared.entry.Entry.{Entry}
use Rattle.mini_asm.specs.Run.{Machine, is_running, start_of, step_of}
use Rattle.mini_asm.specs.declared.cpu.Cpu.{Cpu}
use Rattle.mini_asm.specs.declared.processor.Core.{Core}
use Rattle.mini_asm.specs.declared.processor.FlatMode.{FlatMode}
use Rattle.mini_asm.specs.declared.processor.FlatMode.TheVariants as flat
use Rattle.dsm_runs.specs.declared.mode.Mode.{Mode}
use Rattle.dsm_runs.specs.declared.mode.Mode.TheVariants as mode
use Rattle.dsm_runs.specs.Setups.{IsSetup, Setup, size_of}
use Rattle.dsm_runs.specs.Locals.{Local}
use Rattle.dsm_runs.specs.Worlds.{Step, World}

-- an instruction completed
abbrev pub is_completed : Act → Bool
is_completed (act.Load address value) = true
is_completed (act.Store address value) = true
is_completed (act.Faa address value sum) = true
is_completed (act.Print value) = true
is_completed act.Halt = true
is_completed (act.Trapped why) = true
is_completed act.Step = true
is_completed (act.Fault store block) = false
is_completed (act.Redelivered kind block from) = false
is_completed (act.Delivered kind block from chan number) = false

-- the address that an act read, and the value
abbrev pub reading : Act → Option (ℕ × ℕ)
reading (act.Load address value) = Some (address, value)
reading (act.Faa address value sum) = Some (address, value)
reading (act.Store address value) = None
reading (act.Print value) = None
reading act.Halt = None
reading (act.Trapped why) = None
reading act.Step = None
reading (act.Fault store block) = None
reading (act.Redelivered kind block from) = None
reading (act.Delivered kind block from chan number) = None

-- the next instruction of a node on the flat machine: what it does, and the machine after it; None where the node has ended
abbrev pub flat_step : Machine → ℕ → Option (Act × Machine)
flat_step m node = if is_running m node then step_of m node else None

-- the flat machine of a setup at the start
abbrev pub flat_start : Setup → Machine
flat_start s = start_of s.shape s.init s.programs

-- an entry of an instruction that completed is what the flat machine does next at its node; others leave the machine
abbrev pub FollowsOne : Bool → Machine → Entry → Machine → Type 0
FollowsOne true m e next = flat_step m e.node ≡ Some (e.act, next)
FollowsOne false m e next = next ≡ m

-- Executing the completed instructions of these entries, in their order, does at each step what the entry says: the same
-- act, address, value and sum.
abbrev pub Follows : Machine → List Entry → Machine → Type 0
Follows m [] end = end ≡ m
Follows m (e ∷ es) end = (next : Machine) × FollowsOne (is_completed e.act) m e next × Follows next es end

-- ---- a node as a processor of the flat machine, which has no blocks to wait for

abbrev pub flat_mode : Mode → FlatMode
flat_mode mode.Running = flat.Running
flat_mode (mode.Blocked b) = flat.Running
flat_mode mode.Woken = flat.Running
flat_mode mode.Halted = flat.Halted
flat_mode (mode.Trapped why) = flat.Trapped why

abbrev pub core_in : Cpu → Mode → Core
core_in cpu m = record { cpu = cpu; mode = flat_mode m }

abbrev pub core_of : Local → Core
core_of l = core_in l.cpu l.mode

-- the machine has the setup's programs, as many words, and the nodes' processors: their registers, and who has ended
pub record IsBeside (s : Setup) (g : World) (m : Machine) : Type 0 where
  pub programs : m.programs ≡ s.programs
  pub size : length m.words ≡ size_of s
  pub cores : (i : ℕ) → i < s.shape.nodes → slice_get m.cores i ≡ Some (core_of (g.locals i))

-- ---- what an act reads and writes there

-- what the act read is the word that stands there
abbrev pub IsDue : Act → List ℕ → Type 0
IsDue (act.Load address value) words = value ≡ slice_index words address
IsDue (act.Faa address value sum) words = value ≡ slice_index words address
IsDue (act.Store address value) words = Unit {0}
IsDue (act.Print value) words = Unit {0}
IsDue act.Halt words = Unit {0}
IsDue (act.Trapped why) words = Unit {0}
IsDue act.Step words = Unit {0}
IsDue (act.Fault store block) words = Unit {0}
IsDue (act.Redelivered kind block from) words = Unit {0}
IsDue (act.Delivered kind block from chan number) words = Unit {0}

abbrev pub words_after : Act → List ℕ → List ℕ
words_after (act.Store address value) words = slice_set words address value
words_after (act.Faa address value sum) words = slice_set words address sum
words_after (act.Load address value) words = words
words_after (act.Print value) words = words
words_after act.Halt words = words
words_after (act.Trapped why) words = words
words_after act.Step words = words
words_after (act.Fault store block) words = words
words_after (act.Redelivered kind block from) words = words
words_after (act.Delivered kind block from chan number) words = words

-- the flat machine goes on beside a step
pub record FlatGoesOn (s : Setup) (m : Machine) (e : Entry) (h : World) : Type 0 where
  pub next : Machine
  pub follows : FollowsOne (is_completed e.act) m e next
  pub beside : IsBeside s h next
  pub words : next.words ≡ words_after e.act m.words

-- Where what an event read is the flat machine's word, the flat machine does the same.
abbrev pub DueStepsAreFlat : Type 0
DueStepsAreFlat =
    (s : Setup) (g : World) (e : Entry) (h : World) (m : Machine) →
    IsSetup s → IsBeside s g m → Step s g e h → IsDue e.act m.words → FlatGoesOn s m e h
