-- The table in which the door of a message is found by the block's state and the message's kind.
use Rattle.std.specs.Prelude.{ℕ, ◌≡◌, ◌+◌, ◌*◌, zero, suc, true, List, Option, Some, None, length, slice_get}
use Rattle.tw_base.specs.declared.message.Kind.{Kind}
use Rattle.tw_base.specs.declared.message.Kind.TheVariants as kind
use Rattle.teapot_tree.specs.declared.protocol.Handler.{Handler}
use Rattle.teapot_tree.specs.declared.protocol.Protocol.{Protocol}
use Rattle.teapot_meaning.specs.Fits.{is_known}
use Rattle.handler_code.specs.declared.code.Code.{Code}
use Rattle.handler_code.specs.declared.code.Door.{Door}
use Rattle.handler_code.specs.Doors.{door_for, handlers_at, locals_of}
use Rattle.handler_vm.specs.declared.doors.Place.{Place}

-- the columns of a state: the two faults, and then the messages of the protocol
abbrev pub column_of : Kind → ℕ
column_of kind.RdFault = 0
column_of kind.WrFault = 1
column_of (kind.Named n) = n + 2

abbrev pub kind_at : ℕ → Kind
kind_at zero = kind.RdFault
kind_at (suc zero) = kind.WrFault
kind_at (suc (suc n)) = kind.Named n

-- the door is the one for the message in this state, and the handler is the door's
pub record Leads (p : Protocol) (code : Code) (state : ℕ) (kind : Kind) (d : Door) (h : Handler) : Type 0 where
  pub door : door_for code state kind ≡ Some d
  pub locals : h.locals ≡ locals_of p d

-- the door stands at this place of the code, and its handler at this place of the state
pub record StandsAt (p : Protocol) (code : Code) (state : ℕ) (kind : Kind) (place : Place) : Type 0 where
  pub door : Door
  pub is_door : slice_get code.doors place.door ≡ Some door
  pub handler : Handler
  pub is_handler : slice_get (handlers_at (slice_get p.states state)) place.handler ≡ Some handler
  pub leads : Leads p code state kind door handler

-- the place of the door for the message in this state, none exactly where the state has no door for it
abbrev pub IsPlaceOf : Protocol → Code → ℕ → Kind → Option Place → Type 0
IsPlaceOf p code state kind (Some place) = StandsAt p code state kind place
IsPlaceOf p code state kind None = door_for code state kind ≡ None

-- how many columns a state has, and a place for each state and each of them
pub record Table : Type 0 where
  pub kinds : ℕ
  pub places : List (Option Place)

-- what is there so far is right
abbrev pub IsRight : Protocol → Code → ℕ → List (Option Place) → Type 0
IsRight p code kinds places =
    (state : ℕ) (k : Kind) (o : Option Place) →
    is_known p k ≡ true →
    slice_get places (state * kinds + column_of k) ≡ Some o →
    IsPlaceOf p code state k o

-- for each state and each kind of message that is known, the place of its door
pub record IsTableOf (p : Protocol) (code : Code) (table : Table) : Type 0 where
  pub kinds : table.kinds ≡ length p.messages + 2
  pub many : length table.places ≡ length p.states * table.kinds
  pub leads : IsRight p code table.kinds table.places
