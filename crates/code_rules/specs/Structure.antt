-- Whether doors and rests fit the ops and the protocol.
use Rattle.std.specs.Prelude.{ℕ, ◌+◌, ◌/◌, ◌^◌, ◌==◌, nat_le, nat_lt, Bool, true, false, ◌&&◌, ◌||◌, List, [], ◌∷◌, Option}
use Rattle.std.specs.Prelude.{Some, None, length, slice_get}
use Rattle.std.specs.List.{list_all}
use Rattle.teapot_tree.specs.declared.protocol.Handler.{Handler}
use Rattle.teapot_tree.specs.declared.protocol.Protocol.{Protocol}
use Rattle.teapot_tree.specs.declared.protocol.State.{State}
use Rattle.teapot_tree.specs.Bodies.{body_of}
use Rattle.teapot_tree.specs.Parts.{loops}
use Rattle.teapot_meaning.specs.Fits.{names_in}
use Rattle.handler_code.specs.declared.code.Code.{Code}
use Rattle.handler_code.specs.declared.code.Door.{Door}
use Rattle.handler_code.specs.declared.code.Rest.{Rest}
use Rattle.code_walks.specs.Parts.{handler_of}

-- a slot for each variable, and one for the set of each loop
abbrev pub slot_count : State → Handler → ℕ
slot_count t h = length (names_in t h) + loops (body_of h.body)

abbrev pub has_slots : ℕ → Option State → Option Handler → Bool
has_slots slots (Some t) (Some h) = slots == slot_count t h
has_slots slots _ _ = false

-- a door to a handler of the protocol, with its slots, at one of n ops
abbrev pub is_door_of : Protocol → ℕ → Door → Bool
is_door_of p n door = has_slots door.slots (slice_get p.states door.state) (handler_of p door) && nat_lt door.at n

-- the first door is at place 0; without doors there are no ops
abbrev pub begins : List Door → ℕ → Bool
begins [] n = n == 0
begins (door ∷ doors) n = door.at == 0

-- each door's place is above the one before
abbrev pub rises_from : ℕ → List Door → Bool
rises_from least [] = true
rises_from least (door ∷ doors) = nat_le least door.at && rises_from (door.at + 1) doors

-- no live bit from this slot on
abbrev pub is_live_below : ℕ → ℕ → Bool
is_live_below slots live = nat_le 32 slots || (live / 2 ^ slots == 0)

abbrev pub has_slots_of : Option Door → ℕ → Bool
has_slots_of None live = false
has_slots_of (Some door) live = is_live_below door.slots live

-- a rest at one of n ops, of a door that there is, with live slots that the door's handler has
abbrev pub is_rest_of : List Door → ℕ → Rest → Bool
is_rest_of doors n rest = nat_lt rest.at n && has_slots_of (slice_get doors rest.door) rest.live

abbrev pub is_structured : Protocol → Code → Bool
is_structured p code =
    begins code.doors (length code.ops) && (rises_from 0 code.doors
    && (list_all (is_door_of p (length code.ops)) code.doors && list_all (is_rest_of code.doors (length code.ops)) code.rests))
