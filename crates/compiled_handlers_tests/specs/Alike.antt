-- What is kept of a block beside the block of the interpreter.
use Rattle.std.specs.Prelude.{ℕ, ◌≡◌, ◌<◌, [], Some, None, slice_get}
use Rattle.teapot_tree.specs.declared.protocol.Protocol.{Protocol}
use Rattle.teapot_tree.specs.declared.protocol.State.{State}
use Rattle.teapot_meaning.specs.Fits.{Fits}
use Rattle.teapot_meaning.specs.declared.state.Ended.{Ended}
use Rattle.teapot_meaning.specs.declared.state.Here.{Here}
use Rattle.handler_code.specs.declared.code.Code.{Code}
use Rattle.compiled_handlers.specs.Standing.{BlockStands, Keeping}

-- the block fits the protocol, and what is kept stands for it
pub record Alike (p : Protocol) (code : Code) (kept : Keeping) (here : Here) : Type 0 where
  pub fits : Fits p here
  pub stands : BlockStands p code kept here
  pub within : here.block < kept.blocks.shape.blocks

-- the same of what a message for this block left
pub record EndsAlike (p : Protocol) (code : Code) (kept : Keeping) (block : ℕ) (end : Ended) : Type 0 where
  pub fits : Fits p end.here
  pub stands : BlockStands p code kept end.here
  pub within : block < kept.blocks.shape.blocks

-- the state of this number has no arguments and no continuation
pub record IsPlain (p : Protocol) (number : ℕ) : Type 0 where
  pub state : State
  pub is_state : slice_get p.states number ≡ Some state
  pub params : state.params ≡ []
  pub cont : state.cont ≡ None
