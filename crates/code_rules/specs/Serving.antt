-- Rests and their suspensions, and the doors of each state.
use Rattle.std.specs.Prelude.{ℕ, ◌≡◌, ◌-◌, ◌<◌, ◌==◌, nat_le, nat_lt, Bool, true, false, not, ◌&&◌, List, [], ◌∷◌, Option, Some}
use Rattle.std.specs.Prelude.{None, count_by, length, slice_get, slice_index}
use Rattle.std.specs.List.{list_any}
use Rattle.tw_base.specs.Bits.{all_below}
use Rattle.teapot_tree.specs.declared.protocol.Protocol.{Protocol}
use Rattle.handler_code.specs.declared.code.Code.{Code}
use Rattle.handler_code.specs.declared.code.Door.{Door}
use Rattle.handler_code.specs.declared.code.OpCode.{OpCode}
use Rattle.handler_code.specs.declared.code.OpCode.TheVariants as op
use Rattle.handler_code.specs.declared.code.Rest.{Rest}
use Rattle.handler_code.specs.Doors.{is_for_all_else, same_kind}
use Rattle.handler_code.specs.Machine.{is_live}
use Rattle.code_walks.specs.Parts.{end_of, op_at}
use Rattle.live_slots.specs.Tables.{IsReadFirst, is_set}

-- ---- rests

abbrev pub suspends_to : ℕ → OpCode → Bool
suspends_to number (op.Suspend s r) = r == number
suspends_to number _ = false

-- the place is in the handler behind the door of this number
abbrev pub is_behind : Code → ℕ → Option Door → ℕ → Bool
is_behind code number (Some door) at = nat_le door.at at && nat_lt at (end_of code number)
is_behind code number None at = false

-- one Suspend names the rest. It stands right before it, behind the rest's door
abbrev pub is_placed : Code → ℕ → Rest → Bool
is_placed code number rest =
    (count_by (suspends_to number) code.ops == 1)
    && (nat_lt 0 rest.at && (suspends_to number (op_at code (rest.at - 1)) && is_behind code rest.door
    (slice_get code.doors rest.door) (rest.at - 1)))

-- how many ops name the rest of each number
abbrev pub AreCounted : List OpCode → List ℕ → Type 0
AreCounted ops counts = (number : ℕ) → number < length counts → slice_index counts number ≡ count_by (suspends_to number) ops

-- A slot that is read first from the rest's place is not live. No handler has 32 slots: one from there on is out of range.
pub record LosesSlot (code : Code) (rest : Rest) : Type 0 where
  pub slot : ℕ
  pub read : IsReadFirst code.ops rest.at slot
  pub lost : is_live rest slot ≡ false

-- the same, by a table of the slots that are read first
pub record LosesBy (table : List ℕ) (rest : Rest) : Type 0 where
  pub slot : ℕ
  pub read : is_set table rest.at slot ≡ true
  pub lost : is_live rest slot ≡ false

-- ---- doors

abbrev pub same_door : Door → Door → Bool
same_door a b = (a.state == b.state) && same_kind a.on b.on

-- no two doors of one state for one kind
abbrev pub are_apart : List Door → Bool
are_apart [] = true
are_apart (door ∷ doors) = not (list_any (same_door door) doors) && are_apart doors

abbrev pub has_default : List Door → ℕ → Bool
has_default doors state = list_any (λ d. (d.state == state) && is_for_all_else d.on) doors

abbrev pub serves_all : Protocol → Code → Bool
serves_all p code = are_apart code.doors && all_below (length p.states) (has_default code.doors)
