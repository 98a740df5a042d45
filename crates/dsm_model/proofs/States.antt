-- A handler leaves a block in a state of the protocol, if it was in one.
use Rattle.std.proofs.Common.{◌≡◌, ◌∙◌, sym, ℕ, zero, suc, ◌<◌, nat_lt, List, [], ◌∷◌, length, Option, Some, None, Bool, true}
use Rattle.std.proofs.Common.{false, ◌&&◌, refl, ap, subst, arith}
use Rattle.std.specs.Prelude.{if◌then◌else◌, unwrap_or, position, slice_get, IsSome, nat_le}
use Rattle.std.proofs.lemmas.Bool.Decides.{Decides-ltb}
use Rattle.tw_base.specs.declared.message.Message.{Message}
use Rattle.tw_base.specs.declared.name.Name.{Name}
use Rattle.tw_base.specs.declared.value.Value.{Value}
use Rattle.teapot_tree.specs.declared.protocol.Protocol.{Protocol}
use Rattle.teapot_tree.specs.declared.stmt.Do.TheOpen.{Do-F}
use Rattle.teapot_tree.specs.declared.stmt.Stmt.{Stmt}
use Rattle.teapot_tree.specs.Scopes.{state_number}
use Rattle.teapot_meaning.specs.Does.{Does}
use Rattle.teapot_meaning.specs.Goes.{Goes, ends, goes_on}
use Rattle.teapot_meaning.specs.Layers.{Layer, what_of}
use Rattle.teapot_meaning.specs.Depth.{depth}
use Rattle.teapot_meaning.specs.Names.{declared}
use Rattle.teapot_meaning.specs.Steps.{led_to, assigned, assigned_at, moved, next_of, resumes, sent, sent_all, suspends, tagged}
use Rattle.teapot_meaning.specs.Steps.{turned, turns, values_of, ended}
use Rattle.teapot_meaning.specs.declared.state.Cont.{Cont, out-Cont, roll-Cont, fold-Cont, fold_out-Cont, out-roll-Cont}
use Rattle.teapot_meaning.specs.declared.state.Cont.TheOpen.{StateVal-F}
use Rattle.teapot_meaning.specs.declared.state.Ended.{Ended}
use Rattle.teapot_meaning.specs.declared.state.Here.{Here}
use Rattle.teapot_meaning.specs.declared.state.Next.{Next}
use Rattle.teapot_meaning.specs.declared.state.Next.TheVariants.{On, Over}
use Rattle.teapot_meaning.specs.declared.state.Running.{Running}
use Rattle.teapot_meaning.specs.declared.state.StateVal.{StateVal, out-StateVal, roll-StateVal, fold_out-StateVal}
use Rattle.teapot_meaning.specs.declared.state.StateVal.{fold-roll-StateVal, map-StateVal}
use Rattle.dsm_model.specs.Kept.{is_below}
use Rattle.dsm_runs.proofs.Lists.{and_left, and_right}

-- what is to be resumed
abbrev below_cont : ℕ → Option Cont → Bool
below_cont n (Some k) = is_below n (out-Cont k).saved
below_cont n None = true

abbrev is_layer_below : ℕ → StateVal-F Cont StateVal → Bool
is_layer_below n s = nat_lt s.state n && below_cont n s.cont

abbrev reads : ℕ → StateVal-F Bool Bool → Bool
reads n s = nat_lt s.state n && unwrap_or s.cont true

is_below_by : (n k : ℕ) (args : List Value) (o : Option Cont) →
    reads n (map-StateVal Cont StateVal Bool Bool (fold-Cont Bool Bool (λ k. k.saved) (reads n)) (is_below n)
    (record { state = k; args = args; cont = o })) ≡ is_layer_below n (record { state = k; args = args; cont = o })
unfolding is_below
is_below_by n k args (Some c) = ap (λ b. nat_lt k n && b) (fold_out-Cont Bool Bool (λ k. k.saved) (reads n) c)
is_below_by n k args None = refl

pub is_below-is : (n : ℕ) (s : StateVal) → is_below n s ≡ is_layer_below n (out-StateVal s)
unfolding is_below
is_below-is n s = rw fold_out-StateVal (is_below_by n (out-StateVal s).state (out-StateVal s).args (out-StateVal s).cont)

pub is_below-roll : (n : ℕ) (d : StateVal-F Cont StateVal) → is_below n (roll-StateVal d) ≡ is_layer_below n d
unfolding is_below
is_below-roll n d = rw fold-roll-StateVal (is_below_by n d.state d.args d.cont)

and_both : (a b : Bool) → a ≡ true → b ≡ true → (a && b) ≡ true
and_both true b h k = k
and_both false b h k = h

-- a state that is below some number
below_some : (n : ℕ) (s : StateVal) → is_below n s ≡ true → 0 < n
below_some n s h =
    let lt : (out-StateVal s).state < n = (Decides-ltb (out-StateVal s).state n).0
    (and_left (nat_lt (out-StateVal s).state n) (below_cont n (out-StateVal s).cont) (sym (is_below-is n s) ∙ h)) in
    omega arith

below_rest : (n : ℕ) (s : StateVal) → is_below n s ≡ true → below_cont n (out-StateVal s).cont ≡ true
below_rest n s h = and_right (nat_lt (out-StateVal s).state n) (below_cont n (out-StateVal s).cont) (sym (is_below-is n s) ∙ h)

pub position_below : {X : Type 0} (p : X → Bool) (xs : List X) → 0 < length xs → unwrap_or (position p xs) 0 < length xs
position_below p xs h = grind arith

-- a state by a name that is declared, or by none, with such a state under it
below_named : (p : Protocol) (name : Name) (args : List Value) (o : Option Cont) → 0 < length p.states →
    below_cont (length p.states) o ≡ true
    → is_below (length p.states) (roll-StateVal (record { state = declared (state_number p name); args = args; cont = o })) ≡ true
below_named p name args o some h =
    is_below-roll (length p.states) (record { state = declared (state_number p name); args = args; cont = o })
    ∙ and_both _ _ ((Decides-ltb (declared (state_number p name)) (length p.states)).1 (position_below _ p.states some)) h

-- the state in which a statement leaves the block
abbrev state_in : Next → StateVal
state_in (On rest r) = r.here.state
state_in (Over e) = e.here.state

assigned-state : (r : Running) (name : Name) (x : Value) (i j : Option ℕ) → (assigned_at r name x i j).here.state ≡ r.here.state
assigned-state r name x (Some i) j = refl
assigned-state r name x None (Some i) = refl
assigned-state r name x None None = refl

turned-state : (p : Protocol) (x : Name) (set : List Bool) (o : Option ℕ) (body rest : List Stmt) (r : Running) →
    state_in (turned p x set o body rest r) ≡ r.here.state
unfolding assigned
turned-state p x set None body rest r = refl
turned-state p x set (Some n) body rest r = rw assigned-state refl

resumed_below : (n : ℕ) (o : Option Cont) (rest : List Stmt) (r : Running) → is_below n r.here.state ≡ true →
    below_cont n o ≡ true → is_below n (state_in (resumes r o)) ≡ true
unfolding resumes ended
resumed_below n (Some k) rest r h g = g
resumed_below n None rest r h g = h

suspended_below : (n : ℕ) (b : Bool) (x y : Ended) → is_below n x.here.state ≡ true → is_below n y.here.state ≡ true →
    is_below n (state_in (if b then Over x else Over y)) ≡ true
suspended_below n true x y h k = h
suspended_below n false x y h k = k

led_below : (p : Protocol) (l : Layer) (rest : List Stmt) (r : Running) → is_below (length p.states) r.here.state ≡ true →
    is_below (length p.states) (state_in (led_to p l rest r)) ≡ true
unfolding assigned sent sent_all moved suspends tagged turns ended
led_below p (Do-F.Assign name e) rest r h = rw assigned-state h
led_below p (Do-F.If e first second) rest r h = h
led_below p (Do-F.Send to name args) rest r h = h
led_below p (Do-F.SendAll to name args) rest r h = h
led_below p (Do-F.ForEach x e body) rest r h = h
led_below p (Do-F.Each x set body) rest r h = rw turned-state h
led_below p (Do-F.SetTag tag) rest r h = h
led_below p (Do-F.SetState name args) rest r h =
    below_named p name (values_of p r args) (out-StateVal r.here.state).cont (below_some _ r.here.state h)
    (below_rest _ r.here.state h)
led_below p (Do-F.Suspend label name args passed) rest r h =
    let k = roll-Cont (record { rest = rest; vars = r.vars; came = r.came; saved = r.here.state }) in
    suspended_below (length p.states) (nat_le 8 (depth r.here.state)) _ _ h
    (below_named p name (values_of p r args) (Some k) (below_some _ r.here.state h)
    (rw out-roll-Cont h))
led_below p (Do-F.Resume name) rest r h = resumed_below (length p.states) (out-StateVal r.here.state).cont rest r h
    (below_rest _ r.here.state h)
led_below p Do-F.Install rest r h = h
led_below p Do-F.Enqueue rest r h = h
led_below p Do-F.WakeUp rest r h = h
led_below p (Do-F.Error name) rest r h = h

next_below : (p : Protocol) (stmts : List Stmt) (r : Running) → is_below (length p.states) r.here.state ≡ true →
    is_below (length p.states) (state_in (next_of p stmts r)) ≡ true
unfolding ended
next_below p [] r h = h
next_below p (s ∷ rest) r h = led_below p (what_of s) rest r h

goes_below : (p : Protocol) {stmts : List Stmt} {r : Running} {e : Ended} → Goes p stmts r e →
    is_below (length p.states) r.here.state ≡ true → is_below (length p.states) e.here.state ≡ true
goes_below p (ends over) h = subst (λ (n : Next). is_below (length p.states) (state_in n) ≡ true) over (next_below p _ _ h)
goes_below p (goes_on on more) h =
    goes_below p more (subst (λ (n : Next). is_below (length p.states) (state_in n) ≡ true) on (next_below p _ _ h))

pub does_below : (p : Protocol) (here : Here) (m : Message) (e : Ended) → Does p here m e →
    is_below (length p.states) here.state ≡ true → is_below (length p.states) e.here.state ≡ true
does_below p here m e d h = goes_below p d.goes h

pub below_state : (p : Protocol) (s : StateVal) → is_below (length p.states) s ≡ true →
    IsSome (slice_get p.states (out-StateVal s).state)
below_state p s h =
    let lt : (out-StateVal s).state < length p.states = (Decides-ltb (out-StateVal s).state (length p.states)).0
    (and_left (nat_lt (out-StateVal s).state (length p.states)) (below_cont (length p.states) (out-StateVal s).cont)
    (sym (is_below-is (length p.states) s) ∙ h)) in
    got p.states (out-StateVal s).state lt
  where
    got : {X : Type 0} (xs : List X) (i : ℕ) → i < length xs → IsSome (slice_get xs i)
    got [] i lt = absurd (omega arith)
    got (x ∷ xs) zero lt = refl
    got (x ∷ xs) (suc i) lt = got xs i (omega arith)
