-- Which slots the code reads before it writes them.
use Rattle.std.specs.Prelude.{ℕ, ◌≡◌, ◌+◌, ◌⊎◌, List, Option, Some, None, slice_get}
use Rattle.handler_code.specs.declared.code.OpCode.{OpCode}
use Rattle.handler_code.specs.declared.code.OpCode.TheVariants as op

-- the op stands at this place
abbrev pub HasOp : List OpCode → ℕ → OpCode → Type 0
HasOp ops at o = slice_get ops at ≡ Some o

-- An op at one place may lead to the other, and writes this slot on the way. A path goes on behind a `Suspend` and a `Fail`.
abbrev pub LeadsTo : OpCode → ℕ → ℕ → Option ℕ → Type 0
LeadsTo (op.Put k) at next written = (next ≡ at + 1) × (written ≡ Some k)
LeadsTo (op.Jump to) at next written = (next ≡ to) × (written ≡ None)
LeadsTo (op.JumpBack to) at next written = (next ≡ to) × (written ≡ None)
LeadsTo (op.JumpIfNot to) at next written = ((next ≡ to) ⊎ (next ≡ at + 1)) × (written ≡ None)
LeadsTo (op.EachNext k h to) at next written =
    ((next ≡ to) × (written ≡ None)) ⊎ ((next ≡ at + 1) × (written ≡ Some k))
LeadsTo op.Resume at next written = ⊥
LeadsTo op.Done at next written = ⊥
LeadsTo _ at next written = (next ≡ at + 1) × (written ≡ None)

abbrev pub read_by : OpCode → Option ℕ
read_by (op.Get k) = Some k
read_by (op.EachNext k h to) = Some h
read_by _ = None

-- A path from this place reads the slot before it writes it. A path takes each loop any number of times.
pub data ReadsFirst (ops : List OpCode) : ℕ → ℕ → Type 0 where
  reads : {at slot : ℕ} {o : OpCode} → HasOp ops at o → read_by o ≡ Some slot → ReadsFirst ops at slot
  later :
      {at next slot : ℕ} {o : OpCode} {written : Option ℕ} →
      HasOp ops at o →
      LeadsTo o at next written →
      (written ≡ Some slot → ⊥) →
      ReadsFirst ops next slot →
      ReadsFirst ops at slot
