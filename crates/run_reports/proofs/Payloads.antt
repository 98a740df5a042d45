-- A handler passes on data of numbers of 64 bits.
use Rattle.std.proofs.Common.{◌≡◌, ℕ, zero, suc, cond, Bool, true, false, List, [], ◌∷◌, map, Option, Some, None, refl, sym}
use Rattle.std.proofs.Common.{subst}
use Rattle.std.specs.Prelude.{nat_le, slice_get, unwrap_or}
use Rattle.tw_base.specs.Lists.{Each}
use Rattle.tw_base.specs.declared.entry.End.{End}
use Rattle.tw_base.specs.declared.entry.End.TheVariants.{Fine, TooDeep}
use Rattle.tw_base.specs.declared.message.Message.{Message}
use Rattle.tw_base.specs.declared.name.Name.{Name}
use Rattle.tw_base.specs.declared.value.Data.{Data}
use Rattle.tw_base.specs.declared.value.Value.{Value}
use Rattle.tw_base.specs.declared.value.Value.TheVariants as v
use Rattle.teapot_tree.specs.declared.protocol.MessageDecl.{MessageDecl}
use Rattle.teapot_tree.specs.declared.protocol.Protocol.{Protocol}
use Rattle.teapot_tree.specs.declared.stmt.Do.TheOpen.{Do-F}
use Rattle.teapot_tree.specs.declared.stmt.Stmt.{Stmt}
use Rattle.teapot_tree.specs.Scopes.{message_number, state_number}
use Rattle.teapot_meaning.specs.Depth.{depth, nodes_in}
use Rattle.teapot_meaning.specs.Does.{Does}
use Rattle.teapot_meaning.specs.Goes.{Goes, ends, goes_on}
use Rattle.teapot_meaning.specs.Layers.{Layer, what_of}
use Rattle.teapot_meaning.specs.Names.{declared, info_number}
use Rattle.teapot_meaning.specs.Steps.{assigned, assigned_at, ended, least_of, led_to, moved, next_of, out_of, out_to}
use Rattle.teapot_meaning.specs.Steps.{payload_of, place_of, resumes, sent, sent_all, set_of, suspended, suspends, tagged}
use Rattle.teapot_meaning.specs.Steps.{turned, turns, values_of}
use Rattle.teapot_meaning.specs.Values.{value_of}
use Rattle.teapot_meaning.specs.declared.state.Cont.{Cont, out-Cont, roll-Cont, out-roll-Cont}
use Rattle.teapot_meaning.specs.declared.state.Ended.{Ended}
use Rattle.teapot_meaning.specs.declared.state.Here.{Here}
use Rattle.teapot_meaning.specs.declared.state.Next.{Next}
use Rattle.teapot_meaning.specs.declared.state.Next.TheVariants.{On, Over}
use Rattle.teapot_meaning.specs.declared.state.Out.{Out}
use Rattle.teapot_meaning.specs.declared.state.Running.{Running}
use Rattle.teapot_meaning.specs.declared.state.StateVal.{StateVal, out-StateVal, roll-StateVal, out-roll-StateVal}
use Rattle.teapot_meaning.proofs.Found.{each_both}
use Rattle.printed_reports.specs.Named.{Small}

-- data of numbers of 64 bits, where there is any
abbrev pub SmallData : Option Data → Type 0
SmallData None = Unit {0}
SmallData (Some d) = Each Small d

abbrev pub SmallOut : Out → Type 0
SmallOut o = SmallData o.payload

-- the data that a rest keeps, and so on down the states that were left
abbrev pub ContSmall : (StateVal → Type 0) → Option Cont → Type 0
ContSmall Saved None = Unit {0}
ContSmall Saved (Some k) = SmallData (out-Cont k).came × Saved (out-Cont k).saved

unfoldable pub StateSmallBelow : ℕ → StateVal → Type 0
StateSmallBelow zero x = ⊥
StateSmallBelow (suc n) x = ContSmall (StateSmallBelow n) (out-StateVal x).cont

pub record IsSmallState (x : StateVal) : Type 0 where
  pub most : ℕ
  pub below : StateSmallBelow most x

-- what a handler has while it runs
pub record IsSmallRun (r : Running) : Type 0 where
  pub words : Each Small r.here.words
  pub came : SmallData r.came
  pub sent : Each SmallOut r.sends
  pub state : IsSmallState r.here.state

pub record IsSmallEnd (e : Ended) : Type 0 where
  pub words : Each Small e.here.words
  pub sent : Each SmallOut e.sends
  pub state : IsSmallState e.here.state

abbrev Leads : Next → Type 0
Leads (On rest r) = IsSmallRun r
Leads (Over e) = IsSmallEnd e

-- ---- states

pub plain-state : (x : StateVal) → (out-StateVal x).cont ≡ None → IsSmallState x
unfolding StateSmallBelow
plain-state x e = record { most = 1; below = subst (ContSmall (StateSmallBelow 0)) (sym e) tt }

moved-below : (n state : ℕ) (args : List Value) (x : StateVal) → StateSmallBelow n x → StateSmallBelow n
    (roll-StateVal (record { state = state; args = args; cont = (out-StateVal x).cont }))
unfolding StateSmallBelow
moved-below zero state args x h = h
moved-below (suc n) state args x h = subst (λ y. ContSmall (StateSmallBelow n) y.cont)
    (sym (out-roll-StateVal (record { state = state; args = args; cont = (out-StateVal x).cont }))) h

moved-state : (state : ℕ) (args : List Value) (x : StateVal) → IsSmallState x
    → IsSmallState (roll-StateVal (record { state = state; args = args; cont = (out-StateVal x).cont }))
moved-state state args x h = record { most = h.most; below = moved-below h.most state args x h.below }

-- a state from which a rest with this data is resumed
left-state : (state : ℕ) (args : List Value) (k : Cont) → SmallData (out-Cont k).came → IsSmallState (out-Cont k).saved
    → IsSmallState (roll-StateVal (record { state = state; args = args; cont = Some k }))
unfolding StateSmallBelow
left-state state args k came saved = record {
  most = suc saved.most;
  below = subst (λ y. ContSmall (StateSmallBelow saved.most) y.cont)
      (sym (out-roll-StateVal (record { state = state; args = args; cont = Some k }))) (came, saved.below);
}

-- the state that was left
cont-small : (n : ℕ) (x : StateVal) (k : Cont) → (out-StateVal x).cont ≡ Some k → StateSmallBelow n x
    → SmallData (out-Cont k).came × IsSmallState (out-Cont k).saved
unfolding StateSmallBelow
cont-small zero x k e h = absurd h
cont-small (suc n) x k e h =
    let parts : ContSmall (StateSmallBelow n) (Some k) = subst (ContSmall (StateSmallBelow n)) e h in
    (parts.0, record { most = n; below = parts.1 })

-- ---- statements

assigned-at : (r : Running) (name : Name) (value : Value) (o i : Option ℕ) → IsSmallRun r
    → IsSmallRun (assigned_at r name value o i)
assigned-at r name value (Some k) i h = record { words = h.words; came = h.came; sent = h.sent; state = h.state }
assigned-at r name value None (Some k) h = record { words = h.words; came = h.came; sent = h.sent; state = h.state }
assigned-at r name value None None h = h

data-small : (o : Option MessageDecl) (words : Data) → Each Small words → SmallData (payload_of o words)
unfolding payload_of
data-small None words h = tt
data-small (Some m) words h = by m.carries
  where
    by : (b : Bool) → SmallData (cond b (Some words) None)
    by true = h
    by false = tt

each-out : (number : ℕ) (args : List Value) (payload : Option Data) (nodes : List ℕ) → SmallData payload → Each SmallOut
    (map (out_to number args payload) nodes)
each-out number args payload [] h = tt
each-out number args payload (n ∷ ns) h = (h, each-out number args payload ns h)

install-small : (o : Option Data) (words : Data) → SmallData o → Each Small words → Each Small (unwrap_or o words)
install-small None words h k = k
install-small (Some d) words h k = h

module _ (p : Protocol) where
  assigned-small : (r : Running) (name : Name) (value : Value) → IsSmallRun r → IsSmallRun (assigned p r name value)
  unfolding assigned
  assigned-small r name value h = assigned-at r name value (place_of name r.vars) (info_number p name) h

  sent-small : (r : Running) (to : Value) (number : ℕ) (args : List Value) → IsSmallRun r → IsSmallRun (sent p r to number args)
  unfolding sent
  sent-small r to number args h = record {
    words = h.words;
    came = h.came;
    sent = each_both SmallOut r.sends (out_of p r to number args ∷ []) h.sent
        (data-small (slice_get p.messages number) r.here.words h.words, tt);
    state = h.state;
  }

  all-small : (r : Running) (to : Value) (number : ℕ) (args : List Value) → IsSmallRun r
      → IsSmallRun (sent_all p r to number args)
  unfolding sent_all
  all-small r to number args h = record {
    words = h.words;
    came = h.came;
    sent = each_both SmallOut r.sends _ h.sent (each-out number args (payload_of (slice_get p.messages number) r.here.words)
        (nodes_in (set_of to)) (data-small (slice_get p.messages number) r.here.words h.words));
    state = h.state;
  }

  moved-small : (r : Running) (state : ℕ) (args : List Value) → IsSmallRun r → IsSmallRun (moved r state args)
  unfolding moved
  moved-small r state args h =
      record { words = h.words; came = h.came; sent = h.sent; state = moved-state state args r.here.state h.state }

  end-small : (r : Running) (e : End) → IsSmallRun r → IsSmallEnd (ended r e)
  unfolding ended
  end-small r e h = record { words = h.words; sent = h.sent; state = h.state }

  suspended-small : (r : Running) (state : ℕ) (args : List Value) (rest : List Stmt) → IsSmallRun r
      → IsSmallEnd (ended (suspended r state args rest) Fine)
  unfolding ended
  suspended-small r state args rest h =
      let k : Cont = roll-Cont (record { rest = rest; vars = r.vars; came = r.came; saved = r.here.state }) in
      let is = sym (out-roll-Cont (record { rest = rest; vars = r.vars; came = r.came; saved = r.here.state })) in
      record {
        words = h.words;
        sent = h.sent;
        state = left-state state args k (subst (λ z. SmallData z.came) is h.came)
            (subst (λ z. IsSmallState z.saved) is h.state);
      }

  suspends-small : (b : Bool) (r : Running) (state : ℕ) (args : List Value) (rest : List Stmt) → IsSmallRun r
      → Leads (cond b (Over (ended r TooDeep)) (Over (ended (suspended r state args rest) Fine)))
  suspends-small true r state args rest h = end-small r TooDeep h
  suspends-small false r state args rest h = suspended-small r state args rest h

  resumes-small : (r : Running) (o : Option Cont) → (out-StateVal r.here.state).cont ≡ o → IsSmallRun r → Leads (resumes r o)
  unfolding resumes
  resumes-small r None e h = end-small r Fine h
  resumes-small r (Some k) e h =
      let parts = cont-small h.state.most r.here.state k e h.state.below in
      record { words = h.words; came = parts.0; sent = h.sent; state = parts.1 }

  turned-small : (x : Name) (set : List Bool) (o : Option ℕ) (body rest : List Stmt) (r : Running) → IsSmallRun r
      → Leads (turned p x set o body rest r)
  turned-small x set None body rest r h = h
  turned-small x set (Some node) body rest r h = assigned-small r x (v.Node node) h

  led-small : (l : Layer) (rest : List Stmt) (r : Running) → IsSmallRun r → Leads (led_to p l rest r)
  unfolding tagged suspends turns
  led-small (Do-F.Assign name e) rest r h = assigned-small r name (value_of p r e) h
  led-small (Do-F.If e first second) rest r h = h
  led-small (Do-F.Send to name args) rest r h = sent-small r (value_of p r to) (declared (message_number p name))
      (values_of p r args) h
  led-small (Do-F.SendAll to name args) rest r h = all-small r (value_of p r to) (declared (message_number p name))
      (values_of p r args) h
  led-small (Do-F.SetTag tag) rest r h = record { words = h.words; came = h.came; sent = h.sent; state = h.state }
  led-small (Do-F.SetState name args) rest r h = moved-small r (declared (state_number p name)) (values_of p r args) h
  led-small (Do-F.Suspend label name args passed) rest r h = suspends-small (nat_le 8 (depth r.here.state)) r
      (declared (state_number p name)) (values_of p r args) rest h
  led-small (Do-F.Resume name) rest r h = resumes-small r (out-StateVal r.here.state).cont refl h
  led-small (Do-F.ForEach x e body) rest r h = h
  led-small (Do-F.Each x set body) rest r h = turned-small x set (least_of set) body rest r h
  led-small Do-F.Install rest r h =
      record { words = install-small r.came r.here.words h.came h.words; came = h.came; sent = h.sent; state = h.state }
  led-small Do-F.Enqueue rest r h = record { words = h.words; came = h.came; sent = h.sent; state = h.state }
  led-small Do-F.WakeUp rest r h = record { words = h.words; came = h.came; sent = h.sent; state = h.state }
  led-small (Do-F.Error name) rest r h = end-small r _ h

  next-small : (stmts : List Stmt) (r : Running) → IsSmallRun r → Leads (next_of p stmts r)
  next-small [] r h = end-small r Fine h
  next-small (s ∷ rest) r h = led-small (what_of s) rest r h

  goes-small : {stmts : List Stmt} {r : Running} {e : Ended} → Goes p stmts r e → IsSmallRun r → IsSmallEnd e
  goes-small {stmts = stmts} {r = r} (ends {e = e} is) h = subst Leads is (next-small stmts r h)
  goes-small {stmts = stmts} {r = r} (goes_on is more) h = goes-small more (subst Leads is (next-small stmts r h))

  -- a block and a message with such data come to an end with such data
  pub does-small : (here : Here) (m : Message) (e : Ended) → Each Small here.words → IsSmallState here.state
      → SmallData m.payload → Does p here m e → IsSmallEnd e
  does-small here m e words state came does = goes-small does.goes
      (record { words = words; came = came; sent = tt; state = state })
