-- Whether what an op names is in range, and where jumps and loops may lead.
use Rattle.std.specs.Prelude.{ℕ, zero, suc, ◌+◌, ◌-◌, ◌==◌, nat_le, nat_lt, Bool, true, false, not, ◌&&◌, ◌||◌, List, [], ◌∷◌}
use Rattle.std.specs.Prelude.{◌++◌, length}
use Rattle.std.specs.List.{list_all}
use Rattle.teapot_tree.specs.declared.protocol.Protocol.{Protocol}
use Rattle.handler_code.specs.declared.code.Code.{Code}
use Rattle.handler_code.specs.declared.code.OpCode.{OpCode}
use Rattle.handler_code.specs.declared.code.OpCode.TheVariants as op
use Rattle.code_walks.specs.declared.jumps.Loop.{Loop}
use Rattle.code_walks.specs.declared.parts.Part.{Part}
use Rattle.code_walks.specs.Parts.{op_at}

-- ---- ranges

-- what the op names is in range, in a handler of this many slots
abbrev pub is_in_range : Protocol → Code → ℕ → OpCode → Bool
is_in_range p code slots (op.Get k) = nat_lt k slots
is_in_range p code slots (op.Put k) = nat_lt k slots
is_in_range p code slots (op.GetInfo k) = nat_lt k (length p.infos)
is_in_range p code slots (op.PutInfo k) = nat_lt k (length p.infos)
is_in_range p code slots (op.Send m) = nat_lt m (length p.messages)
is_in_range p code slots (op.SendAll m) = nat_lt m (length p.messages)
is_in_range p code slots (op.Goto s) = nat_lt s (length p.states)
is_in_range p code slots (op.Suspend s r) = nat_lt s (length p.states) && nat_lt r (length code.rests)
is_in_range p code slots (op.Jump to) = nat_lt to (length code.ops)
is_in_range p code slots (op.JumpIfNot to) = nat_lt to (length code.ops)
is_in_range p code slots (op.JumpBack to) = nat_lt to (length code.ops)
is_in_range p code slots (op.EachNext k h to) = nat_lt k slots && (nat_lt h slots && nat_lt to (length code.ops))
is_in_range p code slots _ = true

abbrev pub is_out_of_range : Protocol → Code → Part → ℕ → Bool
is_out_of_range p code part at = not (is_in_range p code part.door.slots (op_at code at))

-- ---- loops

abbrev pub loop_at : ℕ → OpCode → List Loop
loop_at at (op.EachNext k h to) = record { at = at; end = to } ∷ []
loop_at at _ = []

-- the loops among so many ops from a place on
abbrev pub loops_from : Code → ℕ → ℕ → List Loop
loops_from code from zero = []
loops_from code from (suc n) = loops_from code from n ++ loop_at (from + n) (op_at code (from + n))

-- the loops of a handler: each from the place of its EachNext up to the place to which that leads
abbrev pub loops_of : Code → Part → List Loop
loops_of code part = loops_from code part.door.at (part.end - part.door.at)

abbrev pub is_in : Loop → ℕ → Bool
is_in l at = nat_le l.at at && nat_lt at l.end

-- the loop is not entered by a jump from one place to another
abbrev pub is_not_entered : ℕ → ℕ → Loop → Bool
is_not_entered at to l = not (is_in l to) || is_in l at

-- a loop that begins in another one ends in it
abbrev pub is_nested : ℕ → ℕ → Loop → Bool
is_nested at to l = not (nat_lt l.at at && (nat_lt at l.end && nat_lt l.end to))

-- ---- jumps

abbrev pub is_each_to : ℕ → OpCode → Bool
is_each_to place (op.EachNext k h to) = to == place
is_each_to place _ = false

abbrev pub is_back_to : ℕ → OpCode → Bool
is_back_to place (op.JumpBack to) = to == place
is_back_to place _ = false

-- forward in the handler, and into no loop from outside it
abbrev pub leads_forward : List Loop → Part → ℕ → ℕ → Bool
leads_forward loops part at to = nat_lt at to && (nat_lt to part.end && list_all (is_not_entered at to) loops)

-- back to an EachNext of the handler, whose loop ends right after this op
abbrev pub leads_back : Code → Part → ℕ → ℕ → Bool
leads_back code part at to = nat_le part.door.at to && (nat_lt to at && is_each_to (at + 1) (op_at code to))

-- the loop's last op is a JumpBack of the handler to this place, and the loop lies in each earlier one that it begins in
abbrev pub is_loop : List Loop → Code → Part → ℕ → ℕ → Bool
is_loop loops code part at to =
    nat_lt (at + 1) to && (nat_le to part.end && (is_back_to at (op_at code (to - 1)) && list_all (is_nested at to) loops))

abbrev pub leads_well : List Loop → Code → Part → ℕ → OpCode → Bool
leads_well loops code part at (op.Jump to) = leads_forward loops part at to
leads_well loops code part at (op.JumpIfNot to) = leads_forward loops part at to
leads_well loops code part at (op.JumpBack to) = leads_back code part at to
leads_well loops code part at (op.EachNext k h to) = is_loop loops code part at to
leads_well loops code part at _ = true

abbrev pub leads_wrongly : Code → Part → ℕ → Bool
leads_wrongly code part at = not (leads_well (loops_of code part) code part at (op_at code at))

-- ---- the last op

abbrev pub is_done : OpCode → Bool
is_done op.Done = true
is_done _ = false

-- the last op of a handler, and not Done
abbrev pub ends_wrongly : Code → Part → ℕ → Bool
ends_wrongly code part at = (at + 1 == part.end) && not (is_done (op_at code at))
