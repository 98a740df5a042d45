-- Where the machine enters the code.
use Rattle.std.specs.Prelude.{ℕ, ◌≡◌, ◌-◌, ◌==◌, ◌&&◌, Bool, true, false, List, [], ◌∷◌, ◌++◌, Option, Some, None, find, length}
use Rattle.std.specs.Prelude.{map, replicate, slice_get, take}
use Rattle.tw_base.specs.declared.message.Kind.{Kind}
use Rattle.tw_base.specs.declared.message.Kind.TheVariants as kind
use Rattle.tw_base.specs.declared.message.Message.{Message}
use Rattle.tw_base.specs.declared.value.Data.{Data}
use Rattle.tw_base.specs.declared.value.Tag.{Tag}
use Rattle.tw_base.specs.declared.value.Value.{Value}
use Rattle.tw_base.specs.declared.value.Value.TheVariants as v
use Rattle.teapot_tree.specs.declared.protocol.Handler.{Handler}
use Rattle.teapot_tree.specs.declared.protocol.Param.{Param}
use Rattle.teapot_tree.specs.declared.protocol.Protocol.{Protocol}
use Rattle.teapot_tree.specs.declared.protocol.State.{State}
use Rattle.teapot_tree.specs.declared.protocol.Trigger.{Trigger}
use Rattle.teapot_tree.specs.declared.protocol.Trigger.TheVariants as t
use Rattle.teapot_tree.specs.Scopes.{message_number}
use Rattle.teapot_meaning.specs.Does.{zero_of}
use Rattle.teapot_meaning.specs.Names.{declared}
use Rattle.teapot_meaning.specs.declared.state.Kept.TheVariants.{No}
use Rattle.handler_code.specs.declared.code.Code.{Code}
use Rattle.handler_code.specs.declared.code.Door.{Door}
use Rattle.handler_code.specs.declared.code.Kind2.{Kind2}
use Rattle.handler_code.specs.declared.code.Kind2.TheVariants as on
use Rattle.handler_code.specs.Machine.{Machine, Runs, Saved, Stopped}

-- ---- which door

-- the door is for this kind of message
abbrev pub is_for : Kind → Kind2 → Bool
is_for kind.RdFault on.RdFault = true
is_for kind.WrFault on.WrFault = true
is_for (kind.Named n) (on.Named m) = m == n
is_for _ _ = false

abbrev pub is_for_all_else : Kind2 → Bool
is_for_all_else on.Default = true
is_for_all_else _ = false

abbrev pub door_or : Option Door → Option Door → Option Door
door_or (Some d) other = Some d
door_or None other = other

-- the state's door for the message, else its default
abbrev pub door_for : Code → ℕ → Kind → Option Door
door_for code state k = door_or
    (find (λ d. (d.state == state) && is_for k d.on) code.doors)
    (find (λ d. (d.state == state) && is_for_all_else d.on) code.doors)

-- ---- the handler of a door

abbrev pub kind_of : Protocol → Trigger → Kind2
kind_of p t.RdFault = on.RdFault
kind_of p t.WrFault = on.WrFault
kind_of p (t.Named name) = on.Named (declared (message_number p name))
kind_of p t.Default = on.Default

abbrev pub same_kind : Kind2 → Kind2 → Bool
same_kind on.RdFault on.RdFault = true
same_kind on.WrFault on.WrFault = true
same_kind (on.Named m) (on.Named n) = m == n
same_kind on.Default on.Default = true
same_kind _ _ = false

abbrev pub handlers_at : Option State → List Handler
handlers_at (Some s) = s.handlers
handlers_at None = []

abbrev pub locals_at : Option Handler → List Param
locals_at (Some h) = h.locals
locals_at None = []

-- the locals of the handler that the door leads to
abbrev pub locals_of : Protocol → Door → List Param
locals_of p door =
    locals_at (find (λ h. same_kind (kind_of p h.on) door.on) (handlers_at (slice_get p.states door.state)))

-- ---- the machine at a door

-- what a node keeps of a block beside its tag and its words
pub record Cell : Type 0 where
  pub state : ℕ
  pub args : List Value
  pub infos : List Value

-- the arguments that a handler takes of a message; one for all else takes none
abbrev pub args_taken : Kind2 → Message → List Value
args_taken on.Default m = []
args_taken _ m = take m.arg_count m.args

abbrev pub zeros_of : List Param → List Value
zeros_of locals = map (λ l. zero_of l.ty) locals

-- the values, and as many more as there are slots, each the number 0
abbrev pub filled : ℕ → List Value → List Value
filled slots xs = xs ++ replicate (slots - length xs) (v.Int 0)

-- the sender, the arguments of the state and of the message, the locals, and the sets of loops
abbrev pub slots_at : Protocol → Door → List Value → Message → List Value
slots_at p door args m =
    filled door.slots (v.Node m.from ∷ (args ++ (args_taken door.on m ++ zeros_of (locals_of p door))))

abbrev pub entered : Protocol → Door → ℕ → ℕ → ℕ → Tag → Data → Cell → List Saved → Message → Machine
entered p door me home block tag words cell chain m = record {
  at = door.at;
  slots = slots_at p door cell.args m;
  stack = [];
  came = m.payload;
  around = record {
    me = me;
    home = home;
    block = block;
    infos = cell.infos;
    tag = tag;
    words = words;
    sends = [];
    kept = No;
    freed = false;
    woke = false;
  };
  state = cell.state;
  args = cell.args;
  chain = chain;
  ops = 0;
  records = 0;
}

-- The message enters the code at the door that its kind has in the state, and the machine comes to this end.
pub record Enters (p : Protocol) (code : Code) (me home block : ℕ) (tag : Tag) (words : Data) (cell : Cell)
    (chain : List Saved) (m : Message) (e : Stopped) : Type 0 where
  pub door : Door
  pub is_door : door_for code cell.state m.kind ≡ Some door
  pub runs : Runs p code (entered p door me home block tag words cell chain m) e

-- a message that enters the code comes to one end at most
abbrev pub EntersOnce : Protocol → Code → Type 0
EntersOnce p code =
    (me home block : ℕ) (tag : Tag) (words : Data) (cell : Cell) (chain : List Saved) (m : Message) (a b : Stopped) →
    Enters p code me home block tag words cell chain m a →
    Enters p code me home block tag words cell chain m b →
    a ≡ b
