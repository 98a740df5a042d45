-- What nests: protocols, as far as the kinds of their lines go, and the lines of each.
use Rattle.std.specs.Prelude.{◌≡◌, ℕ, zero, suc, List, [], ◌∷◌, ◌++◌}
use Rattle.teapot_parse.specs.declared.judge.Kind.{Kind}
use Rattle.teapot_parse.specs.declared.judge.Kind.TheVariants.{Protocol, Message, Info, Start, State, Handler, Local, Begin}
use Rattle.teapot_parse.specs.declared.judge.Kind.TheVariants.{End, If, Else, ForEach, Plain}

-- statements: the first, and those after it
pub data Body : Type 0 where
  done : Body
  plain : Body → Body
  branch : Body → Body → Body
  branches : Body → Body → Body → Body
  loop : Body → Body → Body

-- handlers, with so many locals
pub data Handlers : Type 0 where
  none : Handlers
  handler : ℕ → Body → Handlers → Handlers

pub data States : Type 0 where
  none : States
  state : Handlers → States → States

-- so many messages, infos and starts, and the states
pub record Shape : Type 0 where
  pub messages : ℕ
  pub infos : ℕ
  pub starts : ℕ
  pub states : States

abbrev pub times : ℕ → Kind → List Kind
times zero k = []
times (suc n) k = k ∷ times n k

abbrev pub of_body : Body → List Kind
of_body done = []
of_body (plain b) = Plain ∷ of_body b
of_body (branch x b) = If ∷ Begin ∷ (of_body x ++ End ∷ of_body b)
of_body (branches x y b) = If ∷ Begin ∷ (of_body x ++ End ∷ Else ∷ Begin ∷ (of_body y ++ End ∷ of_body b))
of_body (loop x b) = ForEach ∷ Begin ∷ (of_body x ++ End ∷ of_body b)

abbrev pub of_handlers : Handlers → List Kind
of_handlers Handlers.none = []
of_handlers (handler n b hs) = Handler ∷ Begin ∷ (times n Local ++ (of_body b ++ End ∷ of_handlers hs))

abbrev pub of_states : States → List Kind
of_states States.none = []
of_states (state hs ss) = State ∷ Begin ∷ (of_handlers hs ++ End ∷ of_states ss)

abbrev pub of_shape : Shape → List Kind
of_shape p = Protocol ∷ (times p.messages Message ++ (times p.infos Info ++ (times p.starts Start ++ of_states p.states)))

-- the lines nest
abbrev pub IsNested : List Kind → Type 0
IsNested ks = (p : Shape) × (ks ≡ of_shape p)

-- some lines after these make a list that nests
abbrev pub CanGoOn : List Kind → Type 0
CanGoOn ks = (more : List Kind) × IsNested (ks ++ more)
