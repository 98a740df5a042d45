-- What the machine of ops does beside a run: the cells and chains of records that it leaves at each block, and how many ops
-- it made and records it saved.
use Rattle.std.specs.Prelude.{◌≡◌, ◌≢◌, ℕ, ◌+◌, nat_eq, List, [], Option, Some, None, find, map}
use Rattle.std.specs.Option.{option_map}
use Rattle.tw_base.specs.declared.entry.Act.{Act}
use Rattle.tw_base.specs.declared.entry.Act.TheVariants as act
use Rattle.tw_base.specs.declared.message.Message.{Message}
use Rattle.teapot_meaning.specs.Does.{zero_of}
use Rattle.handler_code.specs.declared.code.Code.{Code}
use Rattle.handler_code.specs.Doors.{Cell, Enters}
use Rattle.handler_code.specs.Machine.{Saved, Stopped}
use Rattle.handler_vm.specs.Chains.{widened}
use Rattle.dsm_runs.specs.Beside.{Moves}
use Rattle.dsm_runs.specs.Locals.{Local}
use Rattle.dsm_runs.specs.Messages.{fault}
use Rattle.dsm_runs.specs.Setups.{Setup, home_of, start_line, start_state}

-- what the machine has at each block of a node, and what it did so far
pub record Tally : Type 0 where
  pub cells : ℕ → Cell
  pub chains : ℕ → List Saved
  pub ops : ℕ
  pub records : ℕ

-- the cell of a block at node i at the start
abbrev pub first_cell : Setup → ℕ → ℕ → Cell
first_cell s i block = record {
  state = start_state s (start_line s (nat_eq (home_of s block) i));
  args = [];
  infos = map (λ info. zero_of info.ty) s.protocol.infos;
}

abbrev pub first_tally : Setup → ℕ → Tally
first_tally s i = record { cells = first_cell s i; chains = λ block. []; ops = 0; records = 0 }

-- the message that the event of this act handles, if it handles one
abbrev pub handled_message : ℕ → Local → Option Message → Act → Option Message
handled_message i l front (act.Fault store block) = Some (fault store block i)
handled_message i l front (act.Redelivered kind block from) = option_map (λ w. w.message) (find (λ w. w.eligible) l.deferred)
handled_message i l front (act.Delivered kind block from chan number) = front
handled_message i l front (act.Load address value) = None
handled_message i l front (act.Store address value) = None
handled_message i l front (act.Faa address value sum) = None
handled_message i l front (act.Print value) = None
handled_message i l front act.Halt = None
handled_message i l front (act.Trapped why) = None
handled_message i l front act.Step = None

-- The message enters the code at its block, and the machine stops like this. Each record of the chain that is left has its
-- slots and 0 in the places past them.
pub record CountsMessage (s : Setup) (code : Code) (i : ℕ) (l : Local) (m : Message) (t u : Tally) : Type 0 where
  pub stop : Stopped
  pub enters : Enters s.protocol code i (home_of s m.block) m.block (l.blocks m.block).tag (l.blocks m.block).words
      (t.cells m.block) (t.chains m.block) m stop
  pub cell : u.cells m.block ≡ record { state = stop.state; args = stop.args; infos = stop.around.infos }
  pub chain : u.chains m.block ≡ map widened stop.chain
  pub other_cells : (b : ℕ) → b ≢ m.block → u.cells b ≡ t.cells b
  pub other_chains : (b : ℕ) → b ≢ m.block → u.chains b ≡ t.chains b
  pub ops : u.ops ≡ t.ops + stop.ops
  pub records : u.records ≡ t.records + stop.records

abbrev pub CountsIf : Setup → Code → ℕ → Local → Option Message → Tally → Tally → Type 0
CountsIf s code i l None t u = u ≡ t
CountsIf s code i l (Some m) t u = CountsMessage s code i l m t u

-- what an event of a node makes of its tally
abbrev pub Counts : Setup → Code → Moves Tally
Counts s code i l front a t u = CountsIf s code i l (handled_message i l front a) t u
