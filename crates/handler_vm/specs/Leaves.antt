-- What a run leaves, where the machine of ops comes to a stop.
use Rattle.std.specs.Prelude.{ℕ, ◌≡◌, ◌-◌, ◌^◌, ◌<◌, ◌≤◌, ◌++◌, List, map, length, drop, slice_get, take, All}
use Rattle.tw_base.specs.declared.message.Message.{Message}
use Rattle.teapot_tree.specs.declared.protocol.Protocol.{Protocol}
use Rattle.block_tags.specs.Copies.{Copies, block_words, tag_of, with_block, with_tag}
use Rattle.cont_store.specs.Store.{Store}
use Rattle.handler_code.specs.declared.code.Code.{Code}
use Rattle.handler_code.specs.Doors.{Cell as Kept, Enters, filled}
use Rattle.handler_code.specs.Machine.{Stopped, state_arity}
use Rattle.handler_vm.specs.declared.cell.Cell.{Cell}
use Rattle.handler_vm.specs.declared.cell.Ran.{Ran}
use Rattle.handler_vm.specs.Chains.{saved_from, widened}
use Rattle.handler_vm.specs.Sending.{IsUnsent, out_of}

-- a cell as the machine of ops sees it
abbrev pub kept_of : Protocol → Cell → Kept
kept_of p cell = record {
  state = cell.state;
  args = take (state_arity (slice_get p.states cell.state)) cell.args;
  infos = take (length p.infos) cell.infos;
}

-- the message enters the code at this cell, with its chain and its block, and the machine stops like this
abbrev pub StopsAt : Protocol → Code → ℕ → ℕ → Cell → Copies → Store → Message → Stopped → Type 0
StopsAt p code me home cell blocks conts m e =
    Enters p code me home m.block (tag_of blocks m.block) (block_words blocks m.block) (kept_of p cell)
    (saved_from p conts cell.cont) m e

-- the machine stops, after no more ops and with no more sends than are counted
pub record Stops (p : Protocol) (code : Code) (me home : ℕ) (cell : Cell) (blocks : Copies) (conts : Store)
    (m : Message) : Type 0 where
  pub stop : Stopped
  pub stops : StopsAt p code me home cell blocks conts m stop
  pub ops : stop.ops < 2 ^ 64 - 1
  pub sends : length stop.around.sends ≤ 288

abbrev pub ran_of : Stopped → Ran
ran_of e = record {
  kept = e.around.kept;
  freed = e.around.freed;
  woke = e.around.woke;
  end = e.end;
  ops = e.ops;
  records = e.records;
}

-- the cell has the stop's state, arguments and infos, and 0 or what was there past them
pub record HasState (p : Protocol) (old new : Cell) (e : Stopped) : Type 0 where
  pub state : new.state ≡ e.state
  pub args : new.args ≡ filled 4 e.args
  pub arity : length e.args ≡ state_arity (slice_get p.states e.state)
  pub infos : new.infos ≡ e.around.infos ++ drop (length p.infos) old.infos

-- the sends are those of the stop, in order
pub record HasSends (p : Protocol) (me : ℕ) (m : Message) (sent : List Message) (e : Stopped) : Type 0 where
  pub outs : map out_of sent ≡ e.around.sends
  pub unsent : All (IsUnsent p me m.block) sent

-- the block has the stop's tag and words, and all other blocks have their own
abbrev pub written : Copies → ℕ → Stopped → Copies
written blocks block e = with_block (with_tag blocks block e.around.tag) block e.around.words

-- What a run leaves where the machine stops like this: the stop's own sends, cell, chain and block.
pub record Leaves (p : Protocol) (me : ℕ) (m : Message) (old new : Cell) (blocks after : Copies) (conts : Store)
    (sent : List Message) (ran : Ran) (e : Stopped) : Type 0 where
  pub result : ran ≡ ran_of e
  pub cell : HasState p old new e
  pub chain : saved_from p conts new.cont ≡ map widened e.chain
  pub block : after ≡ written blocks m.block e
  pub sends : HasSends p me m sent e
