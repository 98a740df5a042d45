-- What the lines of a report name is there.
use Rattle.std.specs.Prelude.{◌≡◌, ◌<◌, ◌≤◌, ℕ, ◌^◌, Bool, true, false, length, List, Option, Some, None}
use Rattle.tw_base.specs.Lists.{Each}
use Rattle.tw_base.specs.declared.entry.Act.{Act}
use Rattle.tw_base.specs.declared.entry.Act.TheVariants as act
use Rattle.tw_base.specs.declared.entry.After.{After}
use Rattle.tw_base.specs.declared.entry.End.{End}
use Rattle.tw_base.specs.declared.entry.End.TheVariants as how
use Rattle.tw_base.specs.declared.entry.Entry.{Entry}
use Rattle.teapot_meaning.specs.Fits.{is_known}
use Rattle.teapot_meaning.specs.Names.{error_names}
use Rattle.teapot_tree.specs.declared.protocol.Protocol.{Protocol}
use Rattle.dsm_runs.specs.declared.outcome.Outcome.{Outcome}
use Rattle.dsm_runs.specs.declared.outcome.Outcome.TheVariants as outcome
use Rattle.dsm_runs.specs.Flat.{is_completed}
use Rattle.dsm_runs.specs.Setups.{Setup, size_of}
use Rattle.journal.specs.declared.finals.Final.{Final}
use Rattle.journal.specs.declared.history.Break.{Break}
use Rattle.journal.specs.declared.reports.Options.{Options}

-- ---- entries

-- the error of a handler that failed has a name
abbrev pub IsEndOf : Protocol → End → Type 0
IsEndOf p how.Fine = Unit {0}
IsEndOf p (how.Failed number) = number < length (error_names p)
IsEndOf p how.TooDeep = Unit {0}

pub record IsAfterOf (p : Protocol) (after : After) : Type 0 where
  pub state : after.state < length p.states
  pub ended : IsEndOf p after.end

-- the address, the block, the sender and the message are there
abbrev pub IsActOf : Setup → Act → Type 0
IsActOf s (act.Load address value) = address < size_of s
IsActOf s (act.Store address value) = address < size_of s
IsActOf s (act.Faa address value sum) = address < size_of s
IsActOf s (act.Print value) = Unit {0}
IsActOf s act.Halt = Unit {0}
IsActOf s (act.Trapped why) = Unit {0}
IsActOf s act.Step = Unit {0}
IsActOf s (act.Fault store block) = block < s.shape.blocks
IsActOf s (act.Redelivered kind block from) = (is_known s.protocol kind ≡ true) × (block < s.shape.blocks) ×
    (from < s.shape.nodes)
IsActOf s (act.Delivered kind block from chan number) = (is_known s.protocol kind ≡ true) × (block < s.shape.blocks) ×
    (from < s.shape.nodes)

-- nothing is left by an instruction that completed, and something by every other event
abbrev pub IsLeft : Protocol → Bool → Option After → Type 0
IsLeft p true None = Unit {0}
IsLeft p true (Some after) = ⊥
IsLeft p false None = ⊥
IsLeft p false (Some after) = IsAfterOf p after

pub record IsEntryOf (s : Setup) (e : Entry) : Type 0 where
  pub node : e.node < s.shape.nodes
  pub act : IsActOf s e.act
  pub left : IsLeft s.protocol (is_completed e.act) e.after

-- ---- the end of a run

-- a node fails by an error that has a name, or too deep
abbrev pub IsFailureOf : Protocol → End → Type 0
IsFailureOf p how.Fine = ⊥
IsFailureOf p (how.Failed number) = IsEndOf p (how.Failed number)
IsFailureOf p how.TooDeep = Unit {0}

abbrev pub IsOutcomeOf : Protocol → Outcome → Type 0
IsOutcomeOf p (outcome.Failed how) = IsFailureOf p how
IsOutcomeOf p outcome.Halted = Unit {0}
IsOutcomeOf p (outcome.Trapped why) = Unit {0}
IsOutcomeOf p outcome.Spent = Unit {0}
IsOutcomeOf p outcome.Stuck = Unit {0}

pub record IsFinalOf (p : Protocol) (f : Final) : Type 0 where
  pub outcome : IsOutcomeOf p f.outcome
  pub registers : length f.cpu.regs ≤ 16

abbrev pub IsBreakOf : Setup → Option Break → Type 0
IsBreakOf s None = Unit {0}
IsBreakOf s (Some b) = (b.node < s.shape.nodes) × (b.address < size_of s)

-- each name is there of what a report tells: its journal, each node, the words, and the break of its history
pub record IsToldOf (s : Setup) (j : List Entry) (finals : List Final) (words : List ℕ) (broken : Option Break) : Type 0 where
  pub entries_are : Each (IsEntryOf s) j
  pub each_node : length finals ≡ s.shape.nodes
  pub ends_are : Each (IsFinalOf s.protocol) finals
  pub within : length words ≤ size_of s
  pub break_is : IsBreakOf s broken

-- ---- numbers of 64 bits

abbrev pub Small : ℕ → Type 0
Small n = n < 2 ^ 64

abbrev pub IsSmallAct : Act → Type 0
IsSmallAct (act.Load address value) = Small value
IsSmallAct (act.Store address value) = Small value
IsSmallAct (act.Faa address value sum) = Small value × Small sum
IsSmallAct (act.Print value) = Small value
IsSmallAct act.Halt = Unit {0}
IsSmallAct (act.Trapped why) = Unit {0}
IsSmallAct act.Step = Unit {0}
IsSmallAct (act.Fault store block) = Unit {0}
IsSmallAct (act.Redelivered kind block from) = Unit {0}
IsSmallAct (act.Delivered kind block from chan number) = Small number

pub record IsSmallEntry (e : Entry) : Type 0 where
  pub stamp : Small e.stamp
  pub sends : Small e.sends
  pub act : IsSmallAct e.act

pub record IsSmallFinal (f : Final) : Type 0 where
  pub place : Small f.cpu.place
  pub registers : Each Small f.cpu.regs
  pub instructions : Small f.instructions
  pub handled : Small f.handled

abbrev pub HasSmallCounts : Final → Type 0
HasSmallCounts f = Small f.ops × Small f.records

abbrev pub IsSmallBreak : Option Break → Type 0
IsSmallBreak None = Unit {0}
IsSmallBreak (Some b) = Small b.event × Small b.read × Small b.due

-- what a report tells has numbers of 64 bits, the counts where they are asked for
pub record AreSmall (j : List Entry) (finals : List Final) (words : List ℕ) (broken : Option Break) (o : Options) : Type 0 where
  pub few : Small (length j)
  pub small_entries : Each IsSmallEntry j
  pub small_ends : Each IsSmallFinal finals
  pub small_counts : o.counts ≡ true → Each HasSmallCounts finals
  pub small_words : Each Small words
  pub small_break : IsSmallBreak broken
