-- A run under way as the machine of ops that it is.
use Rattle.std.specs.Prelude.{ℕ, All, ◌≡◌, ◌-◌, ◌^◌, ◌<◌, ◌≤◌, List, [], drop, false, length, map, slice_get, take, ⊤}
use Rattle.tw_base.specs.declared.entry.End.{End}
use Rattle.tw_base.specs.declared.message.Message.{Message}
use Rattle.tw_base.specs.declared.value.Data.{Data}
use Rattle.tw_base.specs.declared.value.Tag.{Tag}
use Rattle.teapot_tree.specs.declared.protocol.Protocol.{Protocol}
use Rattle.teapot_meaning.specs.declared.state.Kept.TheVariants.{No}
use Rattle.handler_code.specs.declared.code.Code.{Code}
use Rattle.handler_code.specs.declared.code.Door.{Door}
use Rattle.handler_code.specs.declared.code.OpCode.{OpCode}
use Rattle.handler_code.specs.declared.code.OpCode.TheVariants as op
use Rattle.cont_store.specs.Store.{Store}
use Rattle.handler_code.specs.Doors.{slots_at}
use Rattle.handler_code.specs.Machine.{Around, Machine, Move, Next, Runs, Saved, Stop, Stopped, message_arity, state_arity}
use Rattle.handler_vm.specs.Chains.{IsChain, IsFull, saved_from, widened}
use Rattle.handler_vm.specs.Room.{HasRoom}
use Rattle.handler_vm.specs.Sending.{IsUnsent, Sends, out_of}
use Rattle.handler_vm.specs.declared.cell.Cell.{Cell}
use Rattle.handler_vm.specs.declared.running.Running.{Running}

abbrev pub surroundings : Protocol → Running → List Message → Around
surroundings p r sent = record {
  me = r.me;
  home = r.home;
  block = r.block;
  infos = take (length p.infos) r.infos;
  tag = r.tag;
  words = r.words;
  sends = map out_of sent;
  kept = r.kept;
  freed = r.freed;
  woke = r.woke;
}

-- the machine of ops that has sent these messages and has these records left
abbrev pub machine_of : Protocol → Running → List Message → List Saved → Machine
machine_of p r sent chain = record {
  at = r.at;
  slots = r.slots;
  stack = r.stack;
  came = r.came;
  around = surroundings p r sent;
  state = r.state;
  args = r.args;
  chain = chain;
  ops = r.ops;
  records = r.records;
}

-- the machine with these sends so far, whose records are those of the run's chain in the store
abbrev pub machine_with : Protocol → Running → Sends → Store → Machine
machine_with p r sends store = machine_of p r sends.sent (saved_from p store r.cont)

-- no message and no state has more than four arguments, and there are no more than eight infos
pub record HasFew (p : Protocol) : Type 0 where
  pub messages : (number : ℕ) → message_arity (slice_get p.messages number) ≤ 4
  pub states : (state : ℕ) → state_arity (slice_get p.states state) ≤ 4
  pub infos : length p.infos ≤ 8

-- the op touches neither the sends nor the records, and the run goes on
abbrev pub IsInner : OpCode → Type 0
IsInner (op.Send number) = ⊥
IsInner (op.SendAll number) = ⊥
IsInner (op.Suspend state rest) = ⊥
IsInner op.Resume = ⊥
IsInner (op.Fail n) = ⊥
IsInner op.Done = ⊥
IsInner _ = ⊤

-- the block is the same, and the places past its infos
pub record SameBlock (p : Protocol) (old new : Running) : Type 0 where
  pub me : new.me ≡ old.me
  pub for_block : new.block ≡ old.block
  pub others : drop (length p.infos) new.infos ≡ drop (length p.infos) old.infos

-- What holds of a run at each op: its state has its arguments, its data are a whole block, it made no record, and its chain
-- is whole.
pub record IsSound (p : Protocol) (r : Running) (store : Store) : Type 0 where
  pub arity : length r.args ≡ state_arity (slice_get p.states r.state)
  pub came : IsFull (length r.words) r.came
  pub none_made : r.records ≡ 0
  pub chain : IsChain (length r.words) store r.cont
  pub spare : 1 ≤ store.spare

-- the run, after an op that ends it, is the stop
pub record IsStop (p : Protocol) (r : Running) (sent : List Message) (store : Store) (end : End) (e : Stopped) : Type 0 where
  pub around : e.around ≡ surroundings p r sent
  pub state : e.state ≡ r.state
  pub args : e.args ≡ r.args
  pub arity : length r.args ≡ state_arity (slice_get p.states r.state)
  pub chain : saved_from p store r.cont ≡ map widened e.chain
  pub whole : IsChain (length r.words) store r.cont
  pub how : e.end ≡ end
  pub ops : e.ops ≡ r.ops
  pub records : e.records ≡ r.records

-- what is sent more is unsent as well
abbrev pub StaysUnsent : Protocol → Running → Sends → Sends → Type 0
StaysUnsent p r old new = All (IsUnsent p r.me r.block) old.sent → All (IsUnsent p r.me r.block) new.sent

-- what a move is, where it goes on
abbrev pub OnNext : (Machine → Type 0) → Move → Type 0
OnNext P (Next m) = P m
OnNext P (Stop e) = ⊤

-- The run's place is that of an op, the stack has its length there, and no slot of the handler is missing.
pub record IsAtOp (p : Protocol) (code : Code) (r : Running) : Type 0 where
  pub room : HasRoom p code
  pub deep : room.depth r.at ≡ length r.stack
  pub there : r.at < length code.ops
  pub wide : room.width r.at ≤ length r.slots

-- the machine comes to a stop, with no more ops than can be counted and no more sends than there is room for
pub record WillStop (p : Protocol) (code : Code) (room : ℕ) (m : Machine) : Type 0 where
  pub stop : Stopped
  pub runs : Runs p code m stop
  pub ops : stop.ops < 2 ^ 64 - 1
  pub sends : length stop.around.sends ≤ room

-- the run with which a message enters the code at a door
abbrev pub begun : Protocol → Door → ℕ → ℕ → Tag → Data → Cell → Message → Running
begun p door me home tag words cell m =
    let args = take (state_arity (slice_get p.states cell.state)) cell.args in
    record {
      at = door.at;
      slots = slots_at p door args m;
      stack = [];
      came = m.payload;
      me = me;
      home = home;
      block = m.block;
      infos = cell.infos;
      tag = tag;
      words = words;
      kept = No;
      freed = false;
      woke = false;
      state = cell.state;
      args = args;
      cont = cell.cont;
      ops = 0;
      records = 0;
    }
