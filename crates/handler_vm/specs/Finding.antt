-- The door of a message among those of its state.
use Rattle.std.specs.Prelude.{ℕ, ◌≡◌, ◌==◌, ◌&&◌, Bool, List, Option, find, map, position}
use Rattle.std.specs.Option.{option_or}
use Rattle.tw_base.specs.declared.message.Kind.{Kind}
use Rattle.teapot_tree.specs.declared.protocol.Handler.{Handler}
use Rattle.teapot_tree.specs.declared.protocol.Protocol.{Protocol}
use Rattle.handler_code.specs.declared.code.Code.{Code}
use Rattle.handler_code.specs.declared.code.Door.{Door}
use Rattle.handler_code.specs.declared.code.Kind2.{Kind2}
use Rattle.handler_code.specs.Doors.{is_for, is_for_all_else, kind_of}
use Rattle.handler_vm.specs.Order.{sign_of}

-- These doors lead to the handlers of the state, one after another, and a search for a door of the state finds what it finds
-- among them.
pub record StateDoors (p : Protocol) (code : Code) (state : ℕ) (handlers : List Handler) (own : List Door) : Type 0 where
  pub signs : map sign_of own ≡ map (λ h. record { state = state; on = kind_of p h.on }) handlers
  pub found : (test : Kind2 → Bool) → find (λ d. (d.state == state) && test d.on) code.doors ≡ find (λ d. test d.on) own

-- the place of the first door for this kind of message, else of the first default
abbrev pub place_for : Kind → List Door → Option ℕ
place_for kind doors =
    option_or (position (λ d. is_for kind d.on) doors) (position (λ d. is_for_all_else d.on) doors)
