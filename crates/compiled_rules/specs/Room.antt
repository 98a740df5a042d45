-- The room that a run of compiled code needs.
use Rattle.std.specs.Prelude.{ℕ, ◌≡◌, ◌≤◌, Some, slice_get}
use Rattle.teapot_tree.specs.declared.protocol.Protocol.{Protocol}
use Rattle.handler_code.specs.declared.code.Code.{Code}
use Rattle.handler_code.specs.declared.code.Door.{Door}
use Rattle.handler_code.specs.Stacks.{HasDepth}
use Rattle.code_rules.specs.Safety.{depth_in}

-- no handler has more than 21 slots, and the stack has a depth at each place, at most 24
pub record NeedsLittle (p : Protocol) (code : Code) : Type 0 where
  pub slots : (number : ℕ) (door : Door) → slice_get code.doors number ≡ Some door → door.slots ≤ 21
  pub depths : HasDepth p code (depth_in p code)
