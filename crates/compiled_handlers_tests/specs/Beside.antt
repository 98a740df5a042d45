-- A block beside another of the same node, whose records are in the same store.
use Rattle.std.specs.Prelude.{ℕ, ◌≡◌, ◌≢◌}
use Rattle.teapot_tree.specs.declared.protocol.Protocol.{Protocol}
use Rattle.teapot_meaning.specs.declared.state.Here.{Here}
use Rattle.handler_code.specs.declared.code.Code.{Code}
use Rattle.handler_vm.specs.declared.cell.Cell.{Cell}
use Rattle.handler_vm.specs.Apart.{AreApart}
use Rattle.handler_vm.specs.Chains.{records_of}
use Rattle.compiled_handlers.specs.Standing.{Keeping}
use Rattle.compiled_handlers_tests.specs.Alike.{Alike}

-- The other cell stands for another block that fits, its chain whole; and the two chains have no record in common.
pub record IsBeside (p : Protocol) (code : Code) (kept : Keeping) (block : ℕ) (other : Cell) (there : Here) : Type 0 where
  pub alike : Alike p code (record { cell = other; blocks = kept.blocks; conts = kept.conts }) there
  pub differs : there.block ≢ block
  pub apart : AreApart kept.conts kept.cell.cont other.cont

-- so it is still, and its chain has the records that it had
pub record StaysBeside (p : Protocol) (code : Code) (old new : Keeping) (block : ℕ) (other : Cell) (there : Here) : Type 0 where
  pub beside : IsBeside p code new block other there
  pub records : records_of new.conts other.cont ≡ records_of old.conts other.cont
