-- The types of the values that are on the stack before each op. What is out of range is a number.
use Rattle.std.specs.Prelude.{ℕ, zero, suc, ◌+◌, ◌-◌, Bool, true, not, ◌&&◌, if◌then◌else◌, List, [], ◌∷◌, ◌++◌, Option, Some}
use Rattle.std.specs.Prelude.{None, drop, is_some, length, slice_get, unwrap_or}
use Rattle.teapot_tree.specs.declared.expr.Op.{Op}
use Rattle.teapot_tree.specs.declared.expr.Op.TheVariants.{Add, Sub, Eq, Ne, Lt, Le, And, Or, Has, With, Without}
use Rattle.teapot_tree.specs.declared.protocol.Handler.{Handler}
use Rattle.teapot_tree.specs.declared.protocol.Protocol.{Protocol}
use Rattle.teapot_tree.specs.declared.protocol.State.{State}
use Rattle.teapot_tree.specs.declared.protocol.ValType.{ValType}
use Rattle.teapot_tree.specs.declared.protocol.ValType.TheVariants as ty
use Rattle.teapot_tree.specs.Rules.{params_of}
use Rattle.teapot_tree.specs.Scopes.{args_of, same_type}
use Rattle.teapot_meaning.specs.Fits.{type_of, types_in, types_of}
use Rattle.handler_code.specs.declared.code.Code.{Code}
use Rattle.handler_code.specs.declared.code.Door.{Door}
use Rattle.handler_code.specs.declared.code.OpCode.{OpCode}
use Rattle.handler_code.specs.declared.code.OpCode.TheVariants as op
use Rattle.code_walks.specs.declared.parts.Part.{Part}
use Rattle.code_walks.specs.Parts.{op_at}
use Rattle.code_walks.specs.Parts.{handler_of}

-- ---- slots

abbrev pub variable_types : Protocol → Option State → Option Handler → List ValType
variable_types p (Some t) (Some h) = types_in p t h
variable_types p _ _ = []

-- and so many sets
abbrev pub with_sets : ℕ → List ValType → List ValType
with_sets zero types = types
with_sets (suc n) types = with_sets n types ++ ty.Set ∷ []

-- a Set in each slot after these, which are those of the loops
abbrev pub filled_types : ℕ → List ValType → List ValType
filled_types slots types = with_sets (slots - length types) types

-- the types of the variables of the door's handler, and then of the sets of its loops
abbrev pub slot_types : Protocol → Door → List ValType
slot_types p door = filled_types door.slots (variable_types p (slice_get p.states door.state) (handler_of p door))

abbrev pub type_at : List ValType → ℕ → ValType
type_at types k = unwrap_or (slice_get types k) ty.Int

-- ---- what an op takes and gives. The first type is the top's

abbrev pub top_type : List ValType → ValType
top_type [] = ty.Int
top_type (t ∷ ts) = t

-- these are pushed, one after the other
abbrev pub pushed_on : List ValType → List ValType → List ValType
pushed_on stack [] = stack
pushed_on stack (t ∷ ts) = pushed_on (t ∷ stack) ts

-- of Eq and Ne, two of the type on the top
abbrev pub needs_two : Op → ValType → List ValType
needs_two Add top = ty.Int ∷ ty.Int ∷ []
needs_two Sub top = ty.Int ∷ ty.Int ∷ []
needs_two Lt top = ty.Int ∷ ty.Int ∷ []
needs_two Le top = ty.Int ∷ ty.Int ∷ []
needs_two Eq top = top ∷ top ∷ []
needs_two Ne top = top ∷ top ∷ []
needs_two And top = ty.Bool ∷ ty.Bool ∷ []
needs_two Or top = ty.Bool ∷ ty.Bool ∷ []
needs_two Has top = ty.Node ∷ ty.Set ∷ []
needs_two With top = ty.Node ∷ ty.Set ∷ []
needs_two Without top = ty.Node ∷ ty.Set ∷ []

-- the types that an op takes, where this one is on the top
abbrev pub needs : Protocol → List ValType → OpCode → ValType → List ValType
needs p slots op.One top = ty.Node ∷ []
needs p slots op.Not top = ty.Bool ∷ []
needs p slots op.Count top = ty.Set ∷ []
needs p slots (op.Two o) top = needs_two o top
needs p slots (op.Put k) top = type_at slots k ∷ []
needs p slots (op.PutInfo k) top = type_at (types_of p.infos) k ∷ []
needs p slots (op.JumpIfNot to) top = ty.Bool ∷ []
needs p slots (op.Send m) top = pushed_on (ty.Node ∷ []) (args_of (slice_get p.messages m))
needs p slots (op.SendAll m) top = pushed_on (ty.Set ∷ []) (args_of (slice_get p.messages m))
needs p slots (op.Goto s) top = pushed_on [] (params_of (slice_get p.states s))
needs p slots (op.Suspend s r) top = pushed_on [] (params_of (slice_get p.states s))
needs p slots _ top = []

abbrev pub type_of_two : Op → ValType
type_of_two Add = ty.Int
type_of_two Sub = ty.Int
type_of_two Eq = ty.Bool
type_of_two Ne = ty.Bool
type_of_two Lt = ty.Bool
type_of_two Le = ty.Bool
type_of_two And = ty.Bool
type_of_two Or = ty.Bool
type_of_two Has = ty.Bool
type_of_two With = ty.Set
type_of_two Without = ty.Set

-- the type of the value that an op leaves, if it leaves one
abbrev pub gives : Protocol → List ValType → OpCode → Option ValType
gives p slots (op.Const x) = Some (type_of x)
gives p slots (op.Get k) = Some (type_at slots k)
gives p slots (op.GetInfo k) = Some (type_at (types_of p.infos) k)
gives p slots op.Me = Some ty.Node
gives p slots op.Home = Some ty.Node
gives p slots op.One = Some ty.Set
gives p slots op.Not = Some ty.Bool
gives p slots op.Count = Some ty.Int
gives p slots (op.Two o) = Some (type_of_two o)
gives p slots _ = None

abbrev pub put_on : Option ValType → List ValType → List ValType
put_on (Some t) rest = t ∷ rest
put_on None rest = []

-- the types after an op: the one that it leaves, on those that it did not take; after an op that leaves none, none
abbrev pub types_after : Protocol → List ValType → OpCode → List ValType → List ValType
types_after p slots o stack = put_on (gives p slots o) (drop (length (needs p slots o (top_type stack))) stack)

-- the types after so many ops from a place on
abbrev pub types_before : Protocol → Code → List ValType → ℕ → ℕ → List ValType
types_before p code slots from zero = []
types_before p code slots from (suc k) = types_after p slots (op_at code (from + k)) (types_before p code slots from k)

-- ---- whether they are those that are needed

-- what is left where these are taken, if they are on the top
abbrev pub without : List ValType → List ValType → Option (List ValType)
without stack [] = Some stack
without [] (t ∷ ts) = None
without (s ∷ stack) (t ∷ ts) = if same_type s t then without stack ts else None

-- an EachNext takes nothing off the stack, but has a node and a set as its slots
abbrev pub has_loop_slots : List ValType → OpCode → Bool
has_loop_slots slots (op.EachNext k h to) = same_type ty.Node (type_at slots k) && same_type ty.Set (type_at slots h)
has_loop_slots slots _ = true

abbrev pub is_typed : Protocol → List ValType → OpCode → List ValType → Bool
is_typed p slots o stack = is_some (without stack (needs p slots o (top_type stack))) && has_loop_slots slots o

abbrev pub is_mistyped : Protocol → Code → List ValType → ℕ → ℕ → Bool
is_mistyped p code slots from at = not (is_typed p slots (op_at code at) (types_before p code slots from (at - from)))

abbrev pub breaks_types : Protocol → Code → Part → ℕ → Bool
breaks_types p code part at = is_mistyped p code (slot_types p part.door) part.door.at at
