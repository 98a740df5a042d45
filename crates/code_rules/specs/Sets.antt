-- Whether each loop has a slot for its set to itself.
use Rattle.std.specs.Prelude.{ℕ, ◌-◌, ◌==◌, nat_lt, Bool, true, false, not, ◌&&◌, List, count_by}
use Rattle.std.specs.List.{list_any}
use Rattle.handler_code.specs.declared.code.Code.{Code}
use Rattle.handler_code.specs.declared.code.OpCode.{OpCode}
use Rattle.handler_code.specs.declared.code.OpCode.TheVariants as op
use Rattle.code_walks.specs.declared.parts.Part.{Part}
use Rattle.code_walks.specs.Parts.{op_at, ops_of}

abbrev pub is_put : ℕ → OpCode → Bool
is_put slot (op.Put k) = k == slot
is_put slot _ = false

-- a loop over the set in the slot
abbrev pub is_each_over : ℕ → OpCode → Bool
is_each_over slot (op.EachNext k h to) = h == slot
is_each_over slot _ = false

-- a loop that puts its nodes into the slot
abbrev pub is_each_into : ℕ → OpCode → Bool
is_each_into slot (op.EachNext k h to) = k == slot
is_each_into slot _ = false

-- among these ops one loop is over the slot, one Put writes it, and no loop puts nodes into it
abbrev pub is_set_of_one : List OpCode → ℕ → Bool
is_set_of_one ops slot =
    (count_by (is_each_over slot) ops == 1) && ((count_by (is_put slot) ops == 1) && not (list_any (is_each_into slot) ops))

-- the Put of the set stands right before the EachNext, in the handler
abbrev pub is_put_before : Code → Part → ℕ → ℕ → Bool
is_put_before code part at slot = nat_lt part.door.at at && is_put slot (op_at code (at - 1))

abbrev pub has_own_set : Code → Part → ℕ → OpCode → Bool
has_own_set code part at (op.EachNext k h to) = is_put_before code part at h && is_set_of_one (ops_of code part) h
has_own_set code part at _ = true

abbrev pub shares_set : Code → Part → ℕ → Bool
shares_set code part at = not (has_own_set code part at (op_at code at))
