-- The meaning of a message at a block.
use Rattle.std.specs.Prelude.{◌≡◌, false, List, [], ◌∷◌, ◌++◌, Option, Some, map, slice_get, take, codes}
use Rattle.tw_base.specs.NodeSets.{empty}
use Rattle.tw_base.specs.declared.message.Message.{Message}
use Rattle.tw_base.specs.declared.name.Name.{Name}
use Rattle.tw_base.specs.declared.value.Value.{Value}
use Rattle.tw_base.specs.declared.value.Value.TheVariants as v
use Rattle.teapot_tree.specs.declared.protocol.Handler.{Handler}
use Rattle.teapot_tree.specs.declared.protocol.Param.{Param}
use Rattle.teapot_tree.specs.declared.protocol.Protocol.{Protocol}
use Rattle.teapot_tree.specs.declared.protocol.State.{State}
use Rattle.teapot_tree.specs.declared.protocol.ValType.{ValType}
use Rattle.teapot_tree.specs.declared.protocol.ValType.TheVariants as ty
use Rattle.teapot_meaning.specs.Handlers.{handler_in}
use Rattle.teapot_meaning.specs.declared.state.Bound.{Bound}
use Rattle.teapot_meaning.specs.declared.state.Ended.{Ended}
use Rattle.teapot_meaning.specs.declared.state.Here.{Here}
use Rattle.teapot_meaning.specs.declared.state.Kept.TheVariants.{No}
use Rattle.teapot_meaning.specs.declared.state.Running.{Running}
use Rattle.teapot_meaning.specs.declared.state.StateVal.{out-StateVal}
use Rattle.teapot_meaning.specs.Goes.{Goes}

abbrev pub zero_of : ValType → Value
zero_of ty.Int = v.Int 0
zero_of ty.Bool = v.Bool false
zero_of ty.Node = v.Node 0
zero_of ty.Set = v.Set empty

abbrev pub bound : List Name → List Value → List Bound
bound [] values = []
bound (name ∷ names) [] = []
bound (name ∷ names) (value ∷ values) = record { name = name; value = value } ∷ bound names values

abbrev pub local_of : Param → Bound
local_of local = record { name = local.name; value = zero_of local.ty }

-- the sender, the arguments of the state and of the message, and the locals
unfoldable pub vars_of : State → Handler → Here → Message → List Bound
vars_of s h here m =
    record { name = codes "src"; value = v.Node m.from } ∷
    (bound (map (λ a. a.name) s.params) (out-StateVal here.state).args ++
    (bound h.args (take m.arg_count m.args) ++ map local_of h.locals))

abbrev pub started : State → Handler → Here → Message → Running
started s h here m = record {
  here = here;
  vars = vars_of s h here m;
  came = m.payload;
  sends = [];
  kept = No;
  freed = false;
  woke = false;
}

abbrev pub state_of : Protocol → Here → Option State
state_of p here = slice_get p.states (out-StateVal here.state).state

-- the message's handler goes to this end
pub record Does (p : Protocol) (here : Here) (m : Message) (e : Ended) : Type 0 where
  pub state : State
  pub handler : Handler
  pub is_state : state_of p here ≡ Some state
  pub is_handler : handler_in p m.kind state ≡ Some handler
  pub goes : Goes p handler.body (started state handler here m) e

-- exactly one end
pub record HasOneMeaning (p : Protocol) (here : Here) (m : Message) : Type 0 where
  pub end : Ended
  pub does : Does p here m end
  pub only : (e : Ended) → Does p here m e → e ≡ end
