-- How many values are on the stack before each op.
use Rattle.std.specs.Prelude.{ℕ, zero, suc, ◌≡◌, ◌<◌, ◌≤◌, ◌⊎◌, ◌+◌, ◌-◌, ◌==◌, nat_le, nat_lt, Bool, true, not, ◌&&◌}
use Rattle.std.specs.Prelude.{if◌then◌else◌, Option, Some, None}
use Rattle.teapot_tree.specs.declared.protocol.Protocol.{Protocol}
use Rattle.handler_code.specs.declared.code.Code.{Code}
use Rattle.handler_code.specs.declared.code.OpCode.{OpCode}
use Rattle.handler_code.specs.declared.code.OpCode.TheVariants as op
use Rattle.handler_code.specs.Stacks.{put_by, taken_by}
use Rattle.code_walks.specs.declared.parts.Part.{Part}
use Rattle.code_walks.specs.Parts.{op_at}

-- an op that leaves a value on the stack
abbrev pub is_value : OpCode → Bool
is_value o = put_by o == 1

-- how many values are there after it; after an op that leaves none the stack is taken as empty
abbrev pub depth_after : Protocol → OpCode → ℕ → ℕ
depth_after p o depth = if is_value o then depth - taken_by p o + 1 else 0

-- how many values are there after so many ops from a place on
abbrev pub depth_at : Protocol → Code → ℕ → ℕ → ℕ
depth_at p code from zero = 0
depth_at p code from (suc k) = depth_after p (op_at code (from + k)) (depth_at p code from k)

-- The stack does not run short. It holds at most 24 values, and none after an op that leaves none.
abbrev pub is_served : Protocol → OpCode → ℕ → Bool
is_served p o depth =
    if is_value o then nat_le (taken_by p o) depth && nat_le (depth_after p o depth) 24 else depth == taken_by p o

-- the place to which an op leads, other than the next one
abbrev pub target : OpCode → Option ℕ
target (op.Jump to) = Some to
target (op.JumpIfNot to) = Some to
target (op.JumpBack to) = Some to
target (op.EachNext k h to) = Some to
target _ = None

-- an op that the stack does not serve
abbrev pub is_unserved : Protocol → Code → Part → ℕ → Bool
is_unserved p code part at = not (is_served p (op_at code at) (depth_at p code part.door.at (at - part.door.at)))

-- a place to which an op of the handler leads, though there are values on the stack
pub record IsLedTo (p : Protocol) (code : Code) (part : Part) (to : ℕ) : Type 0 where
  pub at : ℕ
  pub from : part.door.at ≤ at
  pub before : at < part.end
  pub leads : target (op_at code at) ≡ Some to
  pub deep : 0 < depth_at p code part.door.at (to - part.door.at)

abbrev pub BreaksStack : Protocol → Code → Part → ℕ → Type 0
BreaksStack p code part at = (is_unserved p code part at ≡ true) ⊎ IsLedTo p code part at

-- a place inside the handler, right behind an op that leaves a value
abbrev pub is_inside : Code → Part → ℕ → Bool
is_inside code part to = nat_lt part.door.at to && (nat_lt to part.end && is_value (op_at code (to - 1)))

-- the op leads to such a place
abbrev pub LeadsInside : Code → Part → OpCode → ℕ → Type 0
LeadsInside code part o to = (target o ≡ Some to) × (is_inside code part to ≡ true)
