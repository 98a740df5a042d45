-- What a contract sees of a node that runs compiled handlers.
use Rattle.std.specs.Prelude.{ℕ, Bool, List, [], Option, None, not, ◌&&◌, map, slice_index, nat_eq}
use Rattle.std.specs.List.{filter, slice_index_or}
use Rattle.tw_base.specs.declared.entry.End.{End}
use Rattle.tw_base.specs.declared.entry.Entry.{Entry}
use Rattle.tw_base.specs.declared.entry.Event.{Event}
use Rattle.tw_base.specs.declared.entry.Event.TheVariants as event
use Rattle.tw_base.specs.declared.message.Chan.{Chan}
use Rattle.tw_base.specs.declared.message.Message.{Message}
use Rattle.block_tags.specs.Copies.{Copies}
use Rattle.mini_asm.specs.declared.cpu.Cpu.{Cpu}
use Rattle.teapot_meaning.specs.Does.{zero_of}
use Rattle.teapot_meaning.specs.declared.state.Here.{Here}
use Rattle.cont_store.specs.Store.{Store}
use Rattle.handler_code.specs.declared.code.Code.{Code}
use Rattle.handler_vm.specs.declared.cell.Cell.{Cell}
use Rattle.handler_vm.specs.Chains.{saved_from}
use Rattle.handler_vm.specs.Leaves.{kept_of}
use Rattle.compiled_handlers.specs.Standing.{Keeping}
use Rattle.dsm_runs.specs.declared.mode.Mode.{Mode}
use Rattle.dsm_runs.specs.declared.mode.Waiting.{Waiting}
use Rattle.dsm_runs.specs.Locals.{Local}
use Rattle.dsm_runs.specs.Messages.{on_wire, place}
use Rattle.dsm_runs.specs.Schedules.{node_events}
use Rattle.dsm_runs.specs.Setups.{Setup, first_here, home_of, start_line, start_state}
use Rattle.dsm_runs.specs.Tests.{has_eligible, is_early, may_handle, may_instruct}
use Rattle.node_meaning.specs.Tallies.{Tally}

-- the parts of a node's state beside its blocks
pub record Parts : Type 0 where
  pub mode : Mode
  pub failed : Option End
  pub clock : ℕ
  pub cpu : Cpu
  pub deferred : List Waiting
  pub instructions : ℕ
  pub handled : ℕ
  pub sent : ℕ

-- the model's state with these parts and these blocks
abbrev pub with_blocks : Parts → (ℕ → Here) → Local
with_blocks x heres = record {
  mode = x.mode;
  failed = x.failed;
  clock = x.clock;
  cpu = x.cpu;
  blocks = heres;
  deferred = x.deferred;
  instructions = x.instructions;
  handled = x.handled;
  sent = x.sent;
}

pub record Shown : Type 0 where
  pub setup : Setup
  pub code : Code
  pub me : ℕ
  pub parts : Parts
  pub cells : List Cell  -- by block
  pub copies : Copies
  pub conts : Store
  pub log : List Entry
  pub fronts : List (Option Message)  -- the message kept of the wire from node f on channel c, at place f c
  pub accepted : List ℕ  -- how many messages were accepted from that wire
  pub waiting : List Message  -- sent and not handed out yet, the oldest first, with their numbers
  pub posted : List ℕ  -- the number of the next message to node t on channel c, at place t c
  pub ops : ℕ
  pub records : ℕ
  pub ready : Bool  -- there is memory for one event

abbrev pub front_at : Shown → ℕ → Chan → Option Message
front_at n f c = slice_index_or n.fronts (place f c) None

abbrev pub accepted_at : Shown → ℕ → Chan → ℕ
accepted_at n f c = slice_index n.accepted (place f c)

abbrev pub posted_at : Shown → ℕ → Chan → ℕ
posted_at n t c = slice_index n.posted (place t c)

-- what of these messages goes from `me` to t on channel c
abbrev pub onto : ℕ → ℕ → Chan → List Message → List Message
onto me t c ms = filter (on_wire me t c) ms

-- ---- blocks

-- the cell of a block that node i does not have: as at the start
abbrev pub no_cell : Setup → ℕ → ℕ → Cell
no_cell s i block = record {
  state = start_state s (start_line s (nat_eq (home_of s block) i));
  args = [];
  cont = None;
  infos = map (λ info. zero_of info.ty) s.protocol.infos;
}

abbrev pub cell_at : Shown → ℕ → Cell
cell_at n b = slice_index_or n.cells b (no_cell n.setup n.me b)

-- what the node keeps of a block
abbrev pub keeping : Shown → ℕ → Keeping
keeping n b = record { cell = cell_at n b; blocks = n.copies; conts = n.conts }

-- what the machine of ops has at each block, and what it did so far
abbrev pub tally_of : Shown → Tally
tally_of n = record {
  cells = λ b. kept_of n.setup.protocol (cell_at n b);
  chains = λ b. saved_from n.setup.protocol n.conts (cell_at n b).cont;
  ops = n.ops;
  records = n.records;
}

-- ---- what is enabled: the tests read no block, so any blocks will do

abbrev pub tested : Shown → Local
tested n = with_blocks n.parts (first_here n.setup n.me)

-- whether a node makes an event now, where it is one of its own
abbrev pub test_of : Shown → Event → Bool
test_of n (event.Instr i) = may_instruct n.setup (tested n)
test_of n (event.Redeliver i) = may_handle n.setup (tested n) && has_eligible n.parts.deferred
test_of n (event.Deliver i f c) = may_handle n.setup (tested n) &&
    (not (has_eligible n.parts.deferred) && is_early (front_at n f c))

-- the tests of the instruction, the redelivery, and the deliveries by sender and then by channel
abbrev pub node_tests : Shown → List Bool
node_tests n = map (test_of n) (node_events n.setup.shape.nodes n.me)
