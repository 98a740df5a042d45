-- What a node keeps of a block, and the block of the meaning that it stands for.
use Rattle.std.specs.Prelude.{ℕ, ◌≡◌, List, map}
use Rattle.tw_base.specs.declared.message.Message.{Message}
use Rattle.teapot_tree.specs.declared.protocol.Protocol.{Protocol}
use Rattle.teapot_meaning.specs.declared.state.Ended.{Ended}
use Rattle.teapot_meaning.specs.declared.state.Here.{Here}
use Rattle.block_tags.specs.Copies.{Copies, block_words, tag_of, with_block, with_tag}
use Rattle.cont_store.specs.Store.{Store}
use Rattle.handler_code.specs.declared.code.Code.{Code}
use Rattle.handler_vm.specs.declared.cell.Cell.{Cell}
use Rattle.handler_vm.specs.declared.cell.Ran.{Ran}
use Rattle.handler_vm.specs.Chains.{IsChain, saved_from}
use Rattle.handler_vm.specs.Leaves.{kept_of}
use Rattle.dsm_runs.specs.Messages.{message_of}
use Rattle.compiled_meaning.specs.Whole.{CellStands}

-- what a node keeps of a block: the cell, the node's tags and words, and its records
pub record Keeping : Type 0 where
  pub cell : Cell
  pub blocks : Copies
  pub conts : Store

-- The cell with its chain of records, and the block's tag and words, stand for this block of the meaning.
pub record BlockStands (p : Protocol) (code : Code) (kept : Keeping) (here : Here) : Type 0 where
  pub tag : tag_of kept.blocks here.block ≡ here.tag
  pub words : block_words kept.blocks here.block ≡ here.words
  pub chain : IsChain kept.blocks.shape.words kept.conts kept.cell.cont
  pub cell : CellStands p code (kept_of p kept.cell) (saved_from p kept.conts kept.cell.cont) here

-- it is this block of a node
pub record IsBlockOf (me home block : ℕ) (here : Here) : Type 0 where
  pub same_me : here.me ≡ me
  pub same_home : here.home ≡ home
  pub same_block : here.block ≡ block

-- What was done is what the message means: the same sends in order, the same marks and end, the block's tag and words,
-- and no other block's; and what is kept now stands for the block as the meaning leaves it, which is the same block.
pub record DoesAsMeant (p : Protocol) (code : Code) (me home block : ℕ) (old new : Keeping) (sent : List Message) (ran : Ran)
    (e : Ended) : Type 0 where
  pub sends : sent ≡ map (message_of p me block 0) e.sends
  pub kept : ran.kept ≡ e.kept
  pub freed : ran.freed ≡ e.freed
  pub woke : ran.woke ≡ e.woke
  pub end : ran.end ≡ e.end
  pub blocks : new.blocks ≡ with_block (with_tag old.blocks block e.here.tag) block e.here.words
  pub place : IsBlockOf me home block e.here
  pub stands : BlockStands p code new e.here
