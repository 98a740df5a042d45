-- The machine on code that keeps the rules.
use Rattle.std.specs.Prelude.{ℕ, ◌≡◌, ◌-◌, ◌<◌, ◌≤◌, ◌⊎◌, [], Some, length, slice_get}
use Rattle.teapot_tree.specs.declared.protocol.Protocol.{Protocol}
use Rattle.handler_code.specs.declared.code.Code.{Code}
use Rattle.handler_code.specs.declared.code.Door.{Door}
use Rattle.handler_code.specs.Machine.{Machine, Next, move_of}
use Rattle.code_walks.specs.Parts.{AtRest, end_of, op_at}
use Rattle.handler_code.specs.Stacks.{taken_by}
use Rattle.code_walks.specs.Stacks.{depth_at}

-- from the one machine the code comes to the other
pub data Reaches (p : Protocol) (code : Code) (first : Machine) : Machine → Type 0 where
  starts : Reaches p code first first
  goes : {m next : Machine} → Reaches p code first m → move_of p code m ≡ Next next → Reaches p code first next

-- the place of a door
pub record AtDoor (code : Code) (at : ℕ) : Type 0 where
  pub number : ℕ
  pub door : Door
  pub is_door : slice_get code.doors number ≡ Some door
  pub place : door.at ≡ at

-- a machine at a door or at a rest, with an empty stack
pub record IsStart (code : Code) (m : Machine) : Type 0 where
  pub place : AtDoor code m.at ⊎ AtRest code (λ number rest. Unit {0}) m.at
  pub empty : m.stack ≡ []

-- The machine stands at an op of a handler, and its stack is as deep as the walk over the handler says.
pub record IsOnWalk (p : Protocol) (code : Code) (m : Machine) : Type 0 where
  pub number : ℕ
  pub door : Door
  pub is_door : slice_get code.doors number ≡ Some door
  pub from : door.at ≤ m.at
  pub before : m.at < end_of code number
  pub inside : m.at < length code.ops
  pub deep : length m.stack ≡ depth_at p code door.at (m.at - door.at)

-- and the values that the op takes are there
pub record IsSafeAt (p : Protocol) (code : Code) (m : Machine) : Type 0 where
  pub walk : IsOnWalk p code m
  pub served : taken_by p (op_at code m.at) ≤ length m.stack

-- a machine that starts at a door or at a rest stands safely wherever it comes
abbrev pub IsSafe : Protocol → Code → Type 0
IsSafe p code = (first m : Machine) → IsStart code first → Reaches p code first m → IsSafeAt p code m

-- how many values are on the stack before the op at a place, by a walk over all ops
abbrev pub depth_in : Protocol → Code → ℕ → ℕ
depth_in p code at = depth_at p code 0 at
