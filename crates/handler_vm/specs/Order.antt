-- Doors in the order of the handlers that they lead to.
use Rattle.std.specs.Prelude.{ℕ, ◌≡◌, ◌+◌, List, [], ◌∷◌, ◌++◌, map}
use Rattle.teapot_tree.specs.declared.protocol.Protocol.{Protocol}
use Rattle.teapot_tree.specs.declared.protocol.State.{State}
use Rattle.handler_code.specs.declared.code.Code.{Code}
use Rattle.handler_code.specs.declared.code.Door.{Door}
use Rattle.handler_code.specs.declared.code.Kind2.{Kind2}
use Rattle.handler_code.specs.Doors.{kind_of}

-- the state of a handler and what the handler is for
pub record Sign : Type 0 where
  pub state : ℕ
  pub on : Kind2

abbrev pub sign_of : Door → Sign
sign_of door = record { state = door.state; on = door.on }

-- the handlers of these states, the first of which has this number
abbrev pub signs_from : Protocol → ℕ → List State → List Sign
signs_from p number [] = []
signs_from p number (s ∷ states) =
    map (λ h. record { state = number; on = kind_of p h.on }) s.handlers ++ signs_from p (number + 1) states

-- there is one door for each handler, in the order of the text
abbrev pub IsInOrder : Protocol → Code → Type 0
IsInOrder p code = map sign_of code.doors ≡ signs_from p 0 p.states
