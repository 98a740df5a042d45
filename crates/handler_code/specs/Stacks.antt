-- How many values are on the stack at each place.
use Rattle.std.specs.Prelude.{ℕ, ◌≡◌, ◌+◌, ◌≤◌, Option, Some, slice_get}
use Rattle.teapot_tree.specs.declared.protocol.Protocol.{Protocol}
use Rattle.handler_code.specs.declared.code.Code.{Code}
use Rattle.handler_code.specs.declared.code.Door.{Door}
use Rattle.handler_code.specs.declared.code.OpCode.{OpCode}
use Rattle.handler_code.specs.declared.code.OpCode.TheVariants as op
use Rattle.handler_code.specs.declared.code.Rest.{Rest}
use Rattle.handler_code.specs.Live.{HasOp, LeadsTo}
use Rattle.handler_code.specs.Machine.{message_arity, state_arity}

-- how many values an op takes off the stack
abbrev pub taken_by : Protocol → OpCode → ℕ
taken_by p op.One = 1
taken_by p op.Not = 1
taken_by p op.Count = 1
taken_by p (op.Two o) = 2
taken_by p (op.Put k) = 1
taken_by p (op.PutInfo k) = 1
taken_by p (op.JumpIfNot to) = 1
taken_by p (op.Send number) = message_arity (slice_get p.messages number) + 1
taken_by p (op.SendAll number) = message_arity (slice_get p.messages number) + 1
taken_by p (op.Goto state) = state_arity (slice_get p.states state)
taken_by p (op.Suspend state rest) = state_arity (slice_get p.states state)
taken_by p _ = 0

-- how many values it puts there
abbrev pub put_by : OpCode → ℕ
put_by (op.Const x) = 1
put_by (op.Get k) = 1
put_by (op.GetInfo k) = 1
put_by op.Me = 1
put_by op.Home = 1
put_by op.One = 1
put_by op.Not = 1
put_by op.Count = 1
put_by (op.Two o) = 1
put_by _ = 0

-- The stack has so many values at each place: none at a door and at a rest, at most 24 anywhere, and each op finds what it
-- takes.
pub record HasDepth (p : Protocol) (code : Code) (depth : ℕ → ℕ) : Type 0 where
  pub first : depth 0 ≡ 0
  pub doors : (k : ℕ) (d : Door) → slice_get code.doors k ≡ Some d → depth d.at ≡ 0
  pub rests : (k : ℕ) (r : Rest) → slice_get code.rests k ≡ Some r → depth r.at ≡ 0
  pub enough : (at : ℕ) (o : OpCode) → HasOp code.ops at o → taken_by p o ≤ depth at
  pub leads :
      (at next : ℕ) (o : OpCode) (written : Option ℕ) →
      HasOp code.ops at o →
      LeadsTo o at next written →
      depth next + taken_by p o ≡ depth at + put_by o
  pub most : (at : ℕ) → depth at ≤ 24
