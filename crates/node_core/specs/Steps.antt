-- An instruction that runs no handler, at a node's state.
use Rattle.std.specs.Prelude.{◌≡◌, ℕ, ◌+◌, ◌-◌, ◌<◌, ◌^◌, true, false, [], ◌∷◌, ◌++◌, None, length}
use Rattle.tw_base.specs.declared.entry.Act.{Act}
use Rattle.tw_base.specs.declared.entry.Event.TheVariants as event
use Rattle.mini_asm.specs.declared.cpu.Next.{Next}
use Rattle.handler_code.specs.declared.code.Code.{Code}
use Rattle.dsm_runs.specs.declared.mode.Mode.{Mode}
use Rattle.dsm_runs.specs.Setups.{Setup, asked}
use Rattle.dsm_runs.specs.Tests.{may_instruct}
use Rattle.node_core.specs.declared.state.State.{State}
use Rattle.node_core.specs.States.{IsNode, shown_of}
use Rattle.node_meaning.specs.Nodes.{tested}
use Rattle.node_meaning.specs.Stands.{Makes}

-- there is room for the entry, and its stamp and the count of instructions fit
pub record CanStep (x : State) : Type 0 where
  pub log : length x.log.list < x.log.room
  pub clock : x.clock < 2 ^ 64 - 1
  pub instructions : x.instructions < 2 ^ 32 - 1

-- the node is one of the machine, and may make an instruction event
pub record IsAtWork (s : Setup) (code : Code) (me : ℕ) (x : State) : Type 0 where
  pub node : IsNode s code me x
  pub may : may_instruct s (tested (shown_of s code me x)) ≡ true

-- it made one
pub record HasStepped (s : Setup) (code : Code) (me : ℕ) (old new : State) : Type 0 where
  pub makes : Makes (shown_of s code me old) (shown_of s code me new) None (event.Instr me)
  pub node : IsNode s code me new

-- the state with the entry of this act, in this mode
abbrev pub has_logged : ℕ → State → Mode → Act → State
has_logged me x mode act = record x {
  mode = mode;
  clock = x.clock + 1;
  instructions = x.instructions + 1;
  ready = false;
  log = record {
    list = x.log.list ++ record { stamp = x.clock + 1; node = me; act = act; sends = 0; after = None } ∷ [];
    room = x.log.room;
  };
}

-- it did what this asks for: it made an event, if that is what the node's next instruction asks for
pub record Does (me : ℕ) (old new : State) (needs : Next) : Type 0 where
  pub steps :
      (s : Setup) (code : Code) →
      IsAtWork s code me old →
      asked s me old.processor.cpu ≡ needs →
      HasStepped s code me old new
