-- Code that the arrays of a run have room for.
use Rattle.std.specs.Prelude.{ℕ, ◌≡◌, ◌<◌, ◌≤◌, Option, Some, length, slice_get, ⊤}
use Rattle.teapot_tree.specs.declared.protocol.Protocol.{Protocol}
use Rattle.handler_code.specs.declared.code.Code.{Code}
use Rattle.handler_code.specs.declared.code.Door.{Door}
use Rattle.handler_code.specs.declared.code.OpCode.{OpCode}
use Rattle.handler_code.specs.declared.code.OpCode.TheVariants as op
use Rattle.handler_code.specs.declared.code.Rest.{Rest}
use Rattle.handler_code.specs.Live.{HasOp, LeadsTo}
use Rattle.handler_code.specs.Stacks.{HasDepth}

-- what an op names is there, in a handler of this many slots
abbrev pub IsThere : Protocol → Code → ℕ → OpCode → Type 0
IsThere p code width (op.Get k) = k < width
IsThere p code width (op.Put k) = k < width
IsThere p code width (op.GetInfo k) = k < length p.infos
IsThere p code width (op.PutInfo k) = k < length p.infos
IsThere p code width (op.Send number) = number < length p.messages
IsThere p code width (op.SendAll number) = number < length p.messages
IsThere p code width (op.Goto state) = state < length p.states
IsThere p code width (op.Suspend state rest) = (state < length p.states) × (rest < length code.rests)
IsThere p code width (op.EachNext k h to) = (k < width) × (h < width)
IsThere p code width _ = ⊤

-- At each place the handler has so many slots, at most 21. Doors, rests and ops lead to ops, and what ops name is there.
pub record HasPlaces (p : Protocol) (code : Code) (width : ℕ → ℕ) : Type 0 where
  pub doors : (k : ℕ) (d : Door) → slice_get code.doors k ≡ Some d → (d.at < length code.ops) × (width d.at ≡ d.slots)
  pub rests : (k : ℕ) (r : Rest) → slice_get code.rests k ≡ Some r → r.at < length code.ops
  pub there : (at : ℕ) (o : OpCode) → HasOp code.ops at o → IsThere p code (width at) o
  pub leads :
      (at next : ℕ) (o : OpCode) (written : Option ℕ) →
      HasOp code.ops at o →
      LeadsTo o at next written →
      (next < length code.ops) × (width next ≡ width at)
  pub most : (at : ℕ) → width at ≤ 21

-- The stack's length and the number of slots are fixed at each place, at most 24 and 21, and no op looks past them.
pub record HasRoom (p : Protocol) (code : Code) : Type 0 where
  pub depth : ℕ → ℕ
  pub stack : HasDepth p code depth
  pub width : ℕ → ℕ
  pub places : HasPlaces p code width
