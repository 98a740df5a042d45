-- A node's state, and when its events are enabled.
use Rattle.std.specs.Prelude.{◌≡◌, ℕ, ◌-◌, ◌^◌, ◌<◌, true, false, List, [], ◌∷◌, ◌++◌, Option, None}
use Rattle.tw_base.specs.Lists.{Each}
use Rattle.tw_base.specs.Shape.{handler_budget_of}
use Rattle.tw_base.specs.declared.entry.End.{End}
use Rattle.tw_base.specs.declared.message.Message.{Message}
use Rattle.mini_asm.specs.Run.{first_cpu}
use Rattle.mini_asm.specs.declared.cpu.Cpu.{Cpu}
use Rattle.teapot_meaning.specs.declared.state.Here.{Here}
use Rattle.dsm_runs.specs.declared.mode.Mode.{Mode}
use Rattle.dsm_runs.specs.declared.mode.Mode.TheVariants as mode
use Rattle.dsm_runs.specs.declared.mode.Waiting.{Waiting}
use Rattle.dsm_runs.specs.Setups.{Setup, first_here}

pub record Local : Type 0 where
  pub mode : Mode
  pub failed : Option End
  pub clock : ℕ
  pub cpu : Cpu
  pub blocks : ℕ → Here
  pub deferred : List Waiting
  pub instructions : ℕ
  pub handled : ℕ
  pub sent : ℕ

-- a node at the start
abbrev pub first : Setup → ℕ → Local
first s i = record {
  mode = mode.Running;
  failed = None;
  clock = 0;
  cpu = first_cpu;
  blocks = first_here s i;
  deferred = [];
  instructions = 0;
  handled = 0;
  sent = 0;
}

-- no clock and no stamp of a message that is still to be taken reaches this
abbrev pub last_stamp : ℕ
last_stamp = 2 ^ 64 - 1

abbrev pub IsReady : Mode → Type 0
IsReady mode.Running = Unit {0}
IsReady mode.Woken = Unit {0}
IsReady (mode.Blocked b) = ⊥
IsReady mode.Halted = ⊥
IsReady (mode.Trapped why) = ⊥

-- the instruction event is enabled
pub record MayInstruct (s : Setup) (l : Local) : Type 0 where
  pub unfailed : l.failed ≡ None
  pub ready : IsReady l.mode
  pub instructions : l.instructions < s.shape.budget
  pub sent : l.sent < handler_budget_of s.shape
  pub clock : l.clock < last_stamp

-- no other event is enabled while the node is woken and its instruction event is enabled
pub record IsHeld (s : Setup) (l : Local) : Type 0 where
  pub woken : l.mode ≡ mode.Woken
  pub may : MayInstruct s l

-- what a redelivery and a delivery both need
pub record MayHandle (s : Setup) (l : Local) : Type 0 where
  pub unfailed : l.failed ≡ None
  pub free : ¬ IsHeld s l
  pub handled : l.handled < handler_budget_of s.shape
  pub sent : l.sent < handler_budget_of s.shape
  pub clock : l.clock < last_stamp

abbrev pub IsStale : Waiting → Type 0
IsStale w = w.eligible ≡ false

-- the first eligible message of a list
pub record IsFirst (message : Message) (earlier later whole : List Waiting) : Type 0 where
  pub found : whole ≡ earlier ++ record { message = message; eligible = true } ∷ later
  pub stale : Each IsStale earlier
