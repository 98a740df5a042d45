-- When a machine stands for a handler under way.
use Rattle.std.specs.Prelude.{ℕ, ◌≡◌, ◌+◌, ◌*◌, ◌<◌, ◌≤◌, true, List, [], ◌∷◌, length, map, Option, Some, None, slice_get}
use Rattle.tw_base.specs.declared.name.Name.{Name}
use Rattle.tw_base.specs.declared.value.Value.{Value}
use Rattle.teapot_tree.specs.declared.protocol.Protocol.{Protocol}
use Rattle.teapot_tree.specs.declared.stmt.Stmt.{Stmt}
use Rattle.teapot_meaning.specs.declared.state.Bound.{Bound}
use Rattle.teapot_meaning.specs.declared.state.Cont.{Cont, out-Cont}
use Rattle.teapot_meaning.specs.declared.state.Ended.{Ended}
use Rattle.teapot_meaning.specs.declared.state.Running.{Running}
use Rattle.teapot_meaning.specs.declared.state.StateVal.{StateVal, out-StateVal}
use Rattle.teapot_meaning.specs.Goes.{Goes}
use Rattle.teapot_meaning.specs.Steps.{set_of}
use Rattle.teapot_sends.specs.Counts.{steps}
use Rattle.handler_code.specs.declared.code.Code.{Code}
use Rattle.handler_code.specs.declared.code.OpCode.{OpCode}
use Rattle.handler_code.specs.declared.code.Rest.{Rest}
use Rattle.handler_code.specs.Live.{ReadsFirst}
use Rattle.compiled_meaning.specs.Follows.{Follows, Loop, Nested}
use Rattle.handler_code.specs.Machine.{Around, Machine, Runs, Saved, Stopped, is_live, value_at}

abbrev pub names_of : List Bound → List Name
names_of vars = map (λ b. b.name) vars

abbrev pub values_of : List Bound → List Value
values_of vars = map (λ b. b.value) vars

-- the slots of loops that are read from this place on hold the members that are left
abbrev pub HoldsSets : List OpCode → ℕ → List Value → List Loop → Type 0
HoldsSets ops at slots [] = Unit {0}
HoldsSets ops at slots (l ∷ loops) =
    (ReadsFirst ops at l.slot → set_of (value_at slots l.slot) ≡ l.set) × HoldsSets ops at slots loops

-- The slots that are read from this place on hold the values of the variables and the sets of the loops.
pub record Agrees (ops : List OpCode) (width at : ℕ) (slots : List Value) (vars : List Bound) (loops : List Loop) : Type 0 where
  pub sized : width ≤ length slots
  pub fits : length vars ≤ width
  pub nested : Nested (names_of vars) width loops
  pub live : (k : ℕ) → k < length vars → ReadsFirst ops at k → value_at slots k ≡ value_at (values_of vars) k
  pub sets : HoldsSets ops at slots loops

-- a chain of records stands for a nested continuation
pub data ChainStands (p : Protocol) (code : Code) : List Saved → Option Cont → Type 0 where
  none : ChainStands p code [] None
  some :
      {first : Saved} {chain : List Saved} {k : Cont} {rest : Rest} {width : ℕ} {loops : List Loop} →
      slice_get code.rests first.rest ≡ Some rest →
      Follows p (names_of (out-Cont k).vars) width code rest.at (out-Cont k).rest loops →
      Agrees code.ops width rest.at first.values (out-Cont k).vars loops →
      first.came ≡ (out-Cont k).came →
      first.state ≡ (out-StateVal (out-Cont k).saved).state →
      first.args ≡ (out-StateVal (out-Cont k).saved).args →
      ChainStands p code chain (out-StateVal (out-Cont k).saved).cont →
      ChainStands p code (first ∷ chain) (Some k)

pub record StateStands (p : Protocol) (code : Code) (state : ℕ) (args : List Value) (chain : List Saved)
    (x : StateVal) : Type 0 where
  pub same_state : state ≡ (out-StateVal x).state
  pub same_args : args ≡ (out-StateVal x).args
  pub conts : ChainStands p code chain (out-StateVal x).cont

abbrev pub around_of : Running → Around
around_of r = record {
  me = r.here.me;
  home = r.here.home;
  block = r.here.block;
  infos = r.here.infos;
  tag = r.here.tag;
  words = r.here.words;
  sends = r.sends;
  kept = r.kept;
  freed = r.freed;
  woke = r.woke;
}

abbrev pub around_end : Ended → Around
around_end e = record {
  me = e.here.me;
  home = e.here.home;
  block = e.here.block;
  infos = e.here.infos;
  tag = e.here.tag;
  words = e.here.words;
  sends = e.sends;
  kept = e.kept;
  freed = e.freed;
  woke = e.woke;
}

-- the machine at this place has what the handler under way has
pub record Carries (p : Protocol) (code : Code) (width at : ℕ) (m : Machine) (r : Running) (loops : List Loop) : Type 0 where
  pub vars : Agrees code.ops width at m.slots r.vars loops
  pub around : m.around ≡ around_of r
  pub came : m.came ≡ r.came
  pub state : StateStands p code m.state m.args m.chain r.here.state

-- the machine stands before these statements
pub record Stands (p : Protocol) (code : Code) (m : Machine) (stmts : List Stmt) (r : Running) : Type 0 where
  pub width : ℕ
  pub loops : List Loop
  pub follows : Follows p (names_of r.vars) width code m.at stmts loops
  pub carries : Carries p code width m.at m r loops

pub record EndStands (p : Protocol) (code : Code) (s : Stopped) (e : Ended) : Type 0 where
  pub around : s.around ≡ around_end e
  pub end : s.end ≡ e.end
  pub state : StateStands p code s.state s.args s.chain e.here.state

-- the live slots of each rest hold what is read from it on
abbrev pub SavesAll : Code → Type 0
SavesAll code = (r k : ℕ) (rest : Rest) → slice_get code.rests r ≡ Some rest → ReadsFirst code.ops rest.at k →
    is_live rest k ≡ true

-- the machine comes to an end that stands for this one
pub record EndsAlike (p : Protocol) (code : Code) (m : Machine) (e : Ended) : Type 0 where
  pub stopped : Stopped
  pub runs : Runs p code m stopped
  pub stands : EndStands p code stopped e

-- Where the statements come to an end, the machine does too, with the same sends, and the same of all else.
abbrev pub Simulates : Protocol → Code → Type 0
Simulates p code =
    (m : Machine) (stmts : List Stmt) (r : Running) (e : Ended) → Stands p code m stmts r → Goes p stmts r e →
    EndsAlike p code m e

-- how many ops a step of the meaning takes at most: those that lead to the step, and its own
abbrev pub ops_a_step : Code → ℕ
ops_a_step code = 2 * length code.ops + 2

-- Where the statements come to an end, the machine takes at most so many ops for each of their steps.
abbrev pub TakesFewOps : Protocol → Code → Type 0
TakesFewOps p code =
    (m : Machine) (stmts : List Stmt) (r : Running) (e : Ended) (s : Stopped) →
    Stands p code m stmts r →
    (g : Goes p stmts r e) →
    Runs p code m s →
    s.ops ≤ m.ops + ops_a_step code * steps g
