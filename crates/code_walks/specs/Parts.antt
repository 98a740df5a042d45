-- The ops of each handler, its door, and places of its ops.
use Rattle.std.specs.Prelude.{ℕ, ◌≡◌, ◌+◌, ◌<◌, ◌≤◌, List, Option, Some, None, drop, find, length, slice_get, take, unwrap_or}
use Rattle.teapot_tree.specs.declared.protocol.Handler.{Handler}
use Rattle.teapot_tree.specs.declared.protocol.Protocol.{Protocol}
use Rattle.handler_code.specs.Doors.{handlers_at, kind_of, same_kind}
use Rattle.handler_code.specs.declared.code.Code.{Code}
use Rattle.handler_code.specs.declared.code.Door.{Door}
use Rattle.handler_code.specs.declared.code.OpCode.{OpCode}
use Rattle.handler_code.specs.declared.code.OpCode.TheVariants as op
use Rattle.handler_code.specs.declared.code.Rest.{Rest}
use Rattle.code_walks.specs.declared.parts.Part.{Part}

-- the op at a place; past the last one, Done
abbrev pub op_at : Code → ℕ → OpCode
op_at code at = unwrap_or (slice_get code.ops at) op.Done

abbrev pub place_or : Option Door → ℕ → ℕ
place_or (Some door) n = door.at
place_or None n = n

-- the place after the last op of the handler behind the door of this number
abbrev pub end_of : Code → ℕ → ℕ
end_of code number = place_or (slice_get code.doors (number + 1)) (length code.ops)

abbrev pub part_of : Code → ℕ → Door → Part
part_of code number door = record { door = door; end = end_of code number }

-- the ops of a handler, as a list
abbrev pub ops_of : Code → Part → List OpCode
ops_of code part = drop part.door.at (take part.end code.ops)

-- the place is one of the handler's, and it holds there
pub record Within (part : Part) (P : ℕ → Type 0) (at : ℕ) : Type 0 where
  pub from : part.door.at ≤ at
  pub before : at < part.end
  pub holds : P at

-- the place of an op in a handler for which it holds
pub record AtOp (code : Code) (P : Part → ℕ → Type 0) (at : ℕ) : Type 0 where
  pub number : ℕ
  pub door : Door
  pub is_door : slice_get code.doors number ≡ Some door
  pub within : Within (part_of code number door) (P (part_of code number door)) at

-- the place of a rest of which it holds
pub record AtRest (code : Code) (P : ℕ → Rest → Type 0) (at : ℕ) : Type 0 where
  pub number : ℕ
  pub rest : Rest
  pub is_rest : slice_get code.rests number ≡ Some rest
  pub place : rest.at ≡ at
  pub holds : P number rest

-- the handler of the protocol that the door is for
abbrev pub handler_of : Protocol → Door → Option Handler
handler_of p door = find (λ h. same_kind (kind_of p h.on) door.on) (handlers_at (slice_get p.states door.state))
