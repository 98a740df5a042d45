-- The code of a protocol, and what it does with a message.
use Rattle.std.specs.Prelude.{ℕ, ◌≡◌, ◌+◌, ◌*◌, ◌≤◌, ◌↔◌, true, List, [], ◌∷◌, ◌++◌, length, map, replicate, Some, slice_get}
use Rattle.tw_base.specs.declared.message.Message.{Message}
use Rattle.teapot_tree.specs.declared.protocol.Handler.{Handler}
use Rattle.teapot_tree.specs.declared.protocol.Protocol.{Protocol}
use Rattle.teapot_tree.specs.declared.protocol.State.{State}
use Rattle.teapot_meaning.specs.Does.{Does}
use Rattle.teapot_meaning.specs.Fits.{Fits, IsMessageOf, names_in}
use Rattle.teapot_meaning.specs.declared.state.Ended.{Ended}
use Rattle.teapot_meaning.specs.declared.state.Here.{Here}
use Rattle.teapot_sends.specs.Counts.{steps}
use Rattle.handler_code.specs.declared.code.Code.{Code}
use Rattle.handler_code.specs.declared.code.Door.{Door}
use Rattle.handler_code.specs.declared.code.OpCode.{OpCode}
use Rattle.handler_code.specs.declared.code.OpCode.TheVariants as op
use Rattle.handler_code.specs.declared.code.Rest.{Rest}
use Rattle.handler_code.specs.Doors.{Cell, Enters, kind_of}
use Rattle.handler_code.specs.Live.{ReadsFirst}
use Rattle.handler_code.specs.Machine.{Saved, Stopped, is_live}
use Rattle.compiled_meaning.specs.Compiled.{Piece, code_of, in_order, loops_in, rests_in}
use Rattle.compiled_meaning.specs.Stands.{EndStands, StateStands, ops_a_step}

-- ---- handlers in the order of the text

-- a handler, in its state of this number
pub record Entry : Type 0 where
  pub number : ℕ
  pub state : State
  pub handler : Handler

abbrev pub entries_from : ℕ → List State → List Entry
entries_from number [] = []
entries_from number (s ∷ states) =
    map (λ h. record { number = number; state = s; handler = h }) s.handlers ++ entries_from (number + 1) states

abbrev pub entries_of : Protocol → List Entry
entries_of p = entries_from 0 p.states

-- the code of a handler. Its slots are its variables, and then the sets of its loops
abbrev pub entry_code : Protocol → Entry → Piece
entry_code p d at r h =
    let names = names_in d.state d.handler in
    code_of p names d.handler.body at r (length names) ++ op.Done ∷ []

abbrev pub entries_code : Protocol → List Entry → List OpCode
entries_code p entries = in_order (map (entry_code p) entries) 0 0 0

-- ---- doors and rests

abbrev pub door_of : Protocol → Entry → ℕ → List OpCode → Door
door_of p d at ops = record {
  state = d.number;
  on = kind_of p d.handler.on;
  at = at;
  slots = length (names_in d.state d.handler) + loops_in ops;
}

-- the doors of handlers that stand from a place and a rest on
abbrev pub doors_from : Protocol → ℕ → ℕ → List Entry → List Door
doors_from p at r [] = []
doors_from p at r (d ∷ entries) =
    let ops = entry_code p d at r 0 in
    door_of p d at ops ∷ doors_from p (at + length ops) (r + rests_in ops) entries

abbrev pub place_by : OpCode → ℕ → List ℕ → List ℕ
place_by (op.Suspend s r) at places = (at + 1) ∷ places
place_by _ at places = places

-- the places after each `Suspend`
abbrev pub rest_places : ℕ → List OpCode → List ℕ
rest_places at [] = []
rest_places at (o ∷ ops) = place_by o at (rest_places (at + 1) ops)

-- the number of its handler's door for each rest
abbrev pub rest_doors : Protocol → ℕ → ℕ → ℕ → List Entry → List ℕ
rest_doors p at r door [] = []
rest_doors p at r door (d ∷ entries) =
    let ops = entry_code p d at r 0 in
    replicate (rests_in ops) door ++ rest_doors p (at + length ops) (r + rests_in ops) (door + 1) entries

-- the live slots of each rest are those that are read from it on before they are written
abbrev pub IsLive : Code → Type 0
IsLive code = (r k : ℕ) (rest : Rest) → slice_get code.rests r ≡ Some rest →
    (is_live rest k ≡ true) ↔ ReadsFirst code.ops rest.at k

-- the code of the protocol's handlers
pub record IsCode (p : Protocol) (code : Code) : Type 0 where
  pub ops : code.ops ≡ entries_code p (entries_of p)
  pub doors : code.doors ≡ doors_from p 0 0 (entries_of p)
  pub places : map (λ r. r.at) code.rests ≡ rest_places 0 code.ops
  pub owners : map (λ r. r.door) code.rests ≡ rest_doors p 0 0 0 (entries_of p)
  pub live : IsLive code

-- ---- what the code does

-- a cell and a chain of records stand for a block, whose other parts are the same
pub record CellStands (p : Protocol) (code : Code) (cell : Cell) (chain : List Saved) (here : Here) : Type 0 where
  pub infos : cell.infos ≡ here.infos
  pub state : StateStands p code cell.state cell.args chain here.state

-- the message enters the code and comes to an end that stands for this one
pub record EntersAlike (p : Protocol) (code : Code) (here : Here) (cell : Cell) (chain : List Saved) (m : Message)
    (e : Ended) : Type 0 where
  pub stopped : Stopped
  pub enters : Enters p code here.me here.home here.block here.tag here.words cell chain m stopped
  pub stands : EndStands p code stopped e

-- What a message of the protocol means at a block that fits, the code does, at each cell and chain that stand for the block.
abbrev pub DoesWhatIsMeant : Protocol → Code → Type 0
DoesWhatIsMeant p code =
    (here : Here) (cell : Cell) (chain : List Saved) (m : Message) (e : Ended) →
    Fits p here →
    IsMessageOf p (length here.words) m →
    CellStands p code cell chain here →
    Does p here m e →
    EntersAlike p code here cell chain m e

-- the message takes at most so many ops for each step of its meaning
abbrev pub TakesFewOpsAt : Protocol → Code → Type 0
TakesFewOpsAt p code =
    (here : Here) (cell : Cell) (chain : List Saved) (m : Message) (e : Ended) (s : Stopped) →
    Fits p here →
    IsMessageOf p (length here.words) m →
    CellStands p code cell chain here →
    (d : Does p here m e) →
    Enters p code here.me here.home here.block here.tag here.words cell chain m s →
    s.ops ≤ ops_a_step code * steps d.goes
