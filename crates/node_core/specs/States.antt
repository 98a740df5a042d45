-- What is shown of a node's state, and what the state has beside.
use Rattle.std.specs.Prelude.{◌≡◌, ℕ, ◌+◌, ◌≤◌, ◌<◌, ◌^◌, true, length}
use Rattle.handler_code.specs.declared.code.Code.{Code}
use Rattle.handler_vm.specs.Tables.{IsTableOf}
use Rattle.dsm_runs.specs.Setups.{Setup, program_at}
use Rattle.node_core.specs.declared.state.State.{State}
use Rattle.node_meaning.specs.Nodes.{Parts, Shown}
use Rattle.node_meaning.specs.Stands.{IsReplayed, IsWell}

abbrev pub parts_of : State → Parts
parts_of x = record {
  mode = x.mode;
  failed = x.failed;
  clock = x.clock;
  cpu = x.processor.cpu;
  deferred = x.deferred.list;
  instructions = x.instructions;
  handled = x.handled;
  sent = x.sent;
}

abbrev pub shown_of : Setup → Code → ℕ → State → Shown
shown_of s code me x = record {
  setup = s;
  code = code;
  me = me;
  parts = parts_of x;
  cells = x.cells.items;
  copies = x.blocks;
  conts = x.conts;
  log = x.log.list;
  fronts = x.fronts.items;
  accepted = x.fronts.accepted;
  waiting = x.out.waiting;
  posted = x.out.posted;
  ops = x.ops;
  records = x.records;
  ready = x.ready;
}

-- there is memory for one event
pub record HasRooms (x : State) : Type 0 where
  pub log : length x.log.list < x.log.room
  pub out : length x.out.waiting + 288 ≤ x.out.room
  pub spare : 1 ≤ x.conts.spare
  pub deferred : x.deferred.ready ≡ true
  pub ops : x.ops ≤ 2 ^ 63
  pub records : x.records < 2 ^ 31

-- what the state of node `me` has beside what is shown
pub record IsInside (s : Setup) (code : Code) (me : ℕ) (x : State) : Type 0 where
  pub program : x.processor.program ≡ program_at s me
  pub queues : x.deferred.blocks ≡ s.shape.blocks
  pub table : IsTableOf s.protocol code x.doors
  pub rooms : x.ready ≡ true → HasRooms x

-- what every node has
pub record IsNode (s : Setup) (code : Code) (me : ℕ) (x : State) : Type 0 where
  pub well : IsWell (shown_of s code me x)
  pub replayed : IsReplayed (shown_of s code me x)
  pub inside : IsInside s code me x

-- room was made, or not, and all else stays
pub record HasMadeRoom (old new : State) : Type 0 where
  pub log : new.log.list ≡ old.log.list
  pub waiting : new.out.waiting ≡ old.out.waiting
  pub posted : new.out.posted ≡ old.out.posted
  pub conts : new.conts ≡ record old.conts { spare = new.conts.spare }
  pub deferred : new.deferred.list ≡ old.deferred.list
  pub queues : new.deferred.blocks ≡ old.deferred.blocks
  pub rest : new ≡ record old { log = new.log; out = new.out; conts = new.conts; deferred = new.deferred; ready = new.ready }
