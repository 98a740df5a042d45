-- A handler in an event, at a node's state.
use Rattle.std.specs.Prelude.{◌≡◌, ◌≢◌, ℕ, ◌+◌, ◌<◌, ◌≤◌, ◌^◌, true, false, length, slice_index}
use Rattle.tw_base.specs.declared.entry.Act.{Act}
use Rattle.tw_base.specs.declared.entry.Entry.{Entry}
use Rattle.tw_base.specs.declared.message.Message.{Message}
use Rattle.compiled_meaning.specs.Whole.{IsCode}
use Rattle.handler_code.specs.declared.code.Code.{Code}
use Rattle.handler_vm.specs.declared.cell.Ran.{Ran}
use Rattle.handler_vm.specs.Tables.{IsTableOf}
use Rattle.dsm_runs.specs.Setups.{Setup}
use Rattle.node_core.specs.declared.state.State.{State}
use Rattle.node_core.specs.States.{HasRooms, parts_of, shown_of}
use Rattle.node_meaning.specs.Handling.{HandlerLeaves, IsReadyFor, RanFor, parts_after}
use Rattle.node_meaning.specs.Nodes.{cell_at}
use Rattle.node_meaning.specs.Sending.{Outbox, post_all}
use Rattle.node_parts.specs.Parts.{Posting}

-- what waits and the numbers of the next messages
abbrev pub outbox : Posting → Outbox
outbox o = record { waiting = o.waiting; posted = o.posted }

-- the state may take the handler of a message
pub record CanHandle (s : Setup) (code : Code) (me : ℕ) (x : State) (m : Message) : Type 0 where
  pub is_code : IsCode s.protocol code
  pub short : length code.ops < 2 ^ 22
  pub table : IsTableOf s.protocol code x.doors
  pub ready : IsReadyFor (shown_of s code me x) m
  pub rooms : HasRooms x
  pub queues : x.deferred.blocks ≡ s.shape.blocks
  pub cells : length x.cells.items ≡ s.shape.blocks
  pub shape : x.blocks.shape ≡ s.shape
  pub sent : x.sent < 2 ^ 31
  pub posted : (k : ℕ) → slice_index x.out.posted k ≤ x.sent

-- there is room for what a run says of the rest of the node
pub record CanSettle (x : State) : Type 0 where
  pub out : length x.out.waiting + 288 ≤ x.out.room
  pub deferred : x.deferred.ready ≡ true
  pub ops : x.ops ≤ 2 ^ 63
  pub records : x.records < 2 ^ 31
  pub sent : x.sent < 2 ^ 31
  pub posted : (k : ℕ) → slice_index x.out.posted k ≤ x.sent

-- the handler ran at the message's block, and all else stays
pub record HasRun (s : Setup) (code : Code) (me : ℕ) (old new : State) (m : Message) (ran : Ran) : Type 0 where
  pub runs : RanFor (shown_of s code me old) (shown_of s code me new) m new.around.sent ran
  pub ops : ran.ops ≤ 2 ^ 62
  pub infos : length (cell_at (shown_of s code me new) m.block).infos ≡ length (cell_at (shown_of s code me old) m.block).infos
  pub cells : length new.cells.items ≡ length old.cells.items
  pub other_cells : (b : ℕ) → b ≢ m.block → cell_at (shown_of s code me new) b ≡ cell_at (shown_of s code me old) b
  pub same : new ≡ record old { cells = new.cells; blocks = new.blocks; conts = new.conts; around = new.around }

-- what the run says of the rest of the node was done, in an event of this stamp
pub record HasSettled (old new : State) (m : Message) (ran : Ran) (stamp : ℕ) : Type 0 where
  pub parts : parts_of new ≡ parts_after (parts_of old) m ran stamp (length old.around.sent)
  pub out : outbox new.out ≡ post_all stamp old.around.sent (outbox old.out)
  pub ops : new.ops ≡ old.ops + ran.ops
  pub records : new.records ≡ old.records + ran.records
  pub queues : new.deferred.blocks ≡ old.deferred.blocks
  pub same :
      new
      ≡ record old {
        mode = new.mode;
        failed = new.failed;
        clock = new.clock;
        deferred = new.deferred;
        sent = new.sent;
        out = new.out;
        ops = new.ops;
        records = new.records;
      }

-- the message was handled in an event of this act and stamp
pub record HasHandled (s : Setup) (code : Code) (me : ℕ) (old new : State) (m : Message) (act : Act) (stamp : ℕ) : Type 0 where
  pub entry : Entry
  pub act_is : entry.act ≡ act
  pub stamp_is : entry.stamp ≡ stamp
  pub leaves : HandlerLeaves (shown_of s code me old) (shown_of s code me new) m entry
  pub processor : new.processor ≡ old.processor
  pub doors : new.doors ≡ old.doors
  pub queues : new.deferred.blocks ≡ old.deferred.blocks
  pub unready : new.ready ≡ false
