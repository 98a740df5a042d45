-- An event of a node in which a handler runs: what the node's calls leave, part by part.
use Rattle.std.specs.Prelude.{true, ◌<◌, ◌≤◌, ◌≡◌, ◌≢◌, ℕ, ◌+◌, List, [], ◌∷◌, ◌++◌, Some, length}
use Rattle.tw_base.specs.declared.entry.After.{After}
use Rattle.tw_base.specs.declared.entry.Entry.{Entry}
use Rattle.tw_base.specs.declared.message.Message.{Message}
use Rattle.block_tags.specs.Copies.{tag_of}
use Rattle.teapot_meaning.specs.Does.{Does}
use Rattle.teapot_tree.specs.Rules.{IsAccepted}
use Rattle.teapot_meaning.specs.Fits.{Fits, IsMessageOf}
use Rattle.teapot_meaning.specs.declared.state.Kept.TheVariants.{Eligible}
use Rattle.teapot_meaning.specs.declared.state.Ended.{Ended}
use Rattle.teapot_meaning.specs.declared.state.Here.{Here}
use Rattle.handler_code.specs.Machine.{Stopped}
use Rattle.handler_vm.specs.declared.cell.Ran.{Ran}
use Rattle.handler_vm.specs.Chains.{IsChain, KeepsOthers}
use Rattle.handler_vm.specs.Leaves.{Leaves, StopsAt}
use Rattle.compiled_handlers.specs.Standing.{BlockStands, DoesAsMeant, IsBlockOf}
use Rattle.dsm_runs.specs.Events.{failure, freed_if, mode_after, with_kept}
use Rattle.dsm_runs.specs.Setups.{home_of}
use Rattle.node_meaning.specs.Nodes.{Parts, Shown, cell_at, keeping}
use Rattle.node_meaning.specs.Sending.{Outbox, post_all}

abbrev pub outbox_of : Shown → Outbox
outbox_of n = record { waiting = n.waiting; posted = n.posted }

-- The parts of a node after a handler that found these ran for the message: how it ran, the stamp of the event, and how
-- many messages it sent.
abbrev pub parts_after : Parts → Message → Ran → ℕ → ℕ → Parts
parts_after found m ran stamp count = record {
  mode = mode_after ran.woke m.block found.mode;
  failed = failure ran.end;
  clock = stamp;
  cpu = found.cpu;
  deferred = with_kept ran.kept m (freed_if ran.freed m.block found.deferred);
  instructions = found.instructions;
  handled = found.handled;
  sent = found.sent + count;
}

-- the block as the handler left it
abbrev pub after_at : Shown → ℕ → Ran → After
after_at n block ran = record { block = block; state = (cell_at n block).state; tag = tag_of n.copies block; end = ran.end }

-- What `compiled_handlers::handle` says of its call for the message, where it sent these messages and ran so: what is
-- kept of the message's block is as the message means it, and as the machine of ops leaves it.
pub record RanFor (old new : Shown) (m : Message) (sent : List Message) (ran : Ran) : Type 0 where
  pub meant :
      (here : Here) (e : Ended) →
      IsBlockOf old.me (home_of old.setup m.block) m.block here →
      Fits old.setup.protocol here →
      BlockStands old.setup.protocol old.code (keeping old m.block) here →
      Does old.setup.protocol here m e →
      DoesAsMeant old.setup.protocol old.code old.me (home_of old.setup m.block) m.block (keeping old m.block)
      (keeping new m.block) sent ran e
  pub stop : Stopped
  pub stops : StopsAt old.setup.protocol old.code old.me (home_of old.setup m.block) (cell_at old m.block) old.copies
      old.conts m stop
  pub leaves : Leaves old.setup.protocol old.me m (cell_at old m.block) (cell_at new m.block) old.copies new.copies new.conts
      sent ran stop
  pub chain : IsChain old.copies.shape.words new.conts (cell_at new m.block).cont
  pub others : KeepsOthers old.conts new.conts (cell_at old m.block).cont (cell_at new m.block).cont

-- A node as a handler may find it: the message is one of the protocol, for a block of the node that stands for one that
-- fits.
pub record IsReadyFor (n : Shown) (m : Message) : Type 0 where
  pub accepted : IsAccepted n.setup.protocol
  pub message : IsMessageOf n.setup.protocol n.setup.shape.words m
  pub block : m.block < n.setup.shape.blocks
  pub here : Here
  pub is_block : IsBlockOf n.me (home_of n.setup m.block) m.block here
  pub fits : Fits n.setup.protocol here
  pub full : length here.words ≡ n.setup.shape.words
  pub stands : BlockStands n.setup.protocol n.code (keeping n m.block) here

-- a run sends few messages, and one that leaves its message eligible makes those of its block eligible
pub record IsBounded (sent : List Message) (ran : Ran) : Type 0 where
  pub few : length sent ≤ 288
  pub freed : ran.kept ≡ Eligible → ran.freed ≡ true

-- The event of the entry leaves `new`, where a handler ran for the message at the node as `found` shows it.
pub record HandlerLeaves (found new : Shown) (m : Message) (entry : Entry) : Type 0 where
  pub sent : List Message
  pub ran : Ran
  pub runs : RanFor found new m sent ran
  pub infos : length (cell_at new m.block).infos ≡ length (cell_at found m.block).infos
  pub cells : length new.cells ≡ length found.cells
  pub other_cells : (b : ℕ) → b ≢ m.block → cell_at new b ≡ cell_at found b
  pub outbox : outbox_of new ≡ post_all entry.stamp sent (outbox_of found)
  pub parts : new.parts ≡ parts_after found.parts m ran entry.stamp (length sent)
  pub ops : new.ops ≡ found.ops + ran.ops
  pub records : new.records ≡ found.records + ran.records
  pub node : entry.node ≡ found.me
  pub count : entry.sends ≡ length sent
  pub after : entry.after ≡ Some (after_at new m.block ran)
  pub log : new.log ≡ found.log ++ entry ∷ []
  pub fronts : new.fronts ≡ found.fronts
  pub same_setup : new.setup ≡ found.setup
  pub same_code : new.code ≡ found.code
  pub same_me : new.me ≡ found.me
  pub same_accepted : new.accepted ≡ found.accepted
