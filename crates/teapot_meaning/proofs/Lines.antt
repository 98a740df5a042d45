-- The meaning does not look at lines.
use Rattle.std.proofs.Common.{◌≡◌, ◌∙◌, ℕ, zero, suc, ◌+◌, Bool, true, false, List, [], ◌∷◌, ◌++◌, Option, Some, None, length}
use Rattle.std.proofs.Common.{map, not, refl, ap, sym, subst}
use Rattle.std.specs.Prelude.{if◌then◌else◌, nat_le, find, position, slice_get, unwrap_or}
use Rattle.std.specs.List.{prefix_len}
use Rattle.std.specs.Str.{bytes_eq}
use Rattle.tw_base.specs.declared.message.Kind.{Kind}
use Rattle.tw_base.specs.declared.message.Kind.TheVariants as kind
use Rattle.tw_base.specs.declared.message.Message.{Message}
use Rattle.tw_base.specs.declared.name.Name.{Name}
use Rattle.tw_base.specs.declared.value.Data.{Data}
use Rattle.tw_base.specs.declared.value.Value.{Value}
use Rattle.tw_base.specs.declared.value.Value.TheVariants as v
use Rattle.teapot_tree.specs.declared.expr.Expr.{Expr}
use Rattle.teapot_tree.specs.declared.expr.Expr.TheOpen.{Expr-F}
use Rattle.teapot_tree.specs.declared.expr.Expr.TheFolds.{fold-Expr}
use Rattle.teapot_tree.specs.declared.protocol.Handler.{Handler}
use Rattle.teapot_tree.specs.declared.protocol.MessageDecl.{MessageDecl}
use Rattle.teapot_tree.specs.declared.protocol.Protocol.{Protocol}
use Rattle.teapot_tree.specs.declared.protocol.State.{State}
use Rattle.teapot_tree.specs.declared.protocol.Trigger.{Trigger}
use Rattle.teapot_tree.specs.declared.protocol.Trigger.TheVariants.{RdFault, WrFault, Named, Default}
use Rattle.teapot_tree.specs.declared.stmt.Do.{Do, out-Do, roll-Do, out-roll-Do, fold-Do, fold_out-Do, fold-roll-Do, map-Do}
use Rattle.teapot_tree.specs.declared.stmt.Do.TheOpen.{Do-F}
use Rattle.teapot_tree.specs.declared.stmt.Stmt.{Stmt, fold-Stmt, fold_out-Stmt}
use Rattle.teapot_meaning.specs.Layers.{Layer, what_of}
use Rattle.teapot_meaning.specs.Names.{declared, info_number, number_in}
use Rattle.teapot_tree.specs.Scopes.{message_number, state_number}
use Rattle.teapot_tree.specs.Rules.{is_default}
use Rattle.tw_base.specs.NodeSets.{without}
use Rattle.teapot_meaning.specs.declared.state.Bound.{Bound}
use Rattle.teapot_meaning.specs.declared.state.Cont.{Cont, out-Cont, roll-Cont, out-roll-Cont, fold-Cont, fold_out-Cont}
use Rattle.teapot_meaning.specs.declared.state.Cont.{fold-roll-Cont}
use Rattle.tw_base.specs.declared.entry.End.TheVariants.{Fine, Failed, TooDeep}
use Rattle.teapot_meaning.specs.declared.state.Ended.{Ended}
use Rattle.teapot_meaning.specs.declared.state.Here.{Here}
use Rattle.teapot_meaning.specs.declared.state.Next.TheVariants.{On, Over}
use Rattle.teapot_meaning.specs.declared.state.Running.{Running}
use Rattle.teapot_meaning.specs.declared.state.StateVal.{StateVal, out-StateVal, roll-StateVal, out-roll-StateVal}
use Rattle.teapot_meaning.specs.declared.state.StateVal.{fold_out-StateVal, fold-roll-StateVal, ind-StateVal, map-StateVal}
use Rattle.teapot_meaning.specs.Bare.{bare_cont, bare_ended, bare_here, bare_next, bare_running, bare_val}
use Rattle.teapot_tree.specs.Bare.{bare, bare_all, bare_handler, bare_message, bare_param, bare_protocol, bare_state}
use Rattle.teapot_meaning.specs.Depth.{depth}
use Rattle.teapot_meaning.specs.Does.{Does, local_of, started, vars_of}
use Rattle.teapot_meaning.specs.Handlers.{answers, default_of, handler_in, is_at, own_or}
use Rattle.teapot_meaning.specs.Goes.{Goes, ends, goes_on}
use Rattle.teapot_meaning.specs.Steps.{assigned, assigned_at, branch, each, ended, least_of, led_to, moved, next_of, payload_of}
use Rattle.teapot_meaning.specs.Steps.{place_of, resumes, sent, sent_all, set_of, suspended, suspends, tagged, turned, turns}
use Rattle.teapot_meaning.specs.Steps.{values_of}
use Rattle.teapot_meaning.proofs.BareErrors.{error_names-bare}
use Rattle.teapot_meaning.specs.Values.{value_of, value_step, variable}

abbrev pub opt : {X Y : Type 0} → (X → Y) → Option X → Option Y
opt f (Some x) = Some (f x)
opt f None = None

prefix-map : {X Y : Type 0} (f : X → Y) (t : Y → Bool) (xs : List X) → prefix_len t (map f xs) ≡ prefix_len (λ x. t (f x)) xs
prefix-map f t [] = refl
prefix-map f t (x ∷ xs) = ap (λ n. if t (f x) then 1 + n else 0) (prefix-map f t xs)

length_map : {X Y : Type 0} (f : X → Y) (xs : List X) → length (map f xs) ≡ length xs
length_map f [] = refl
length_map f (x ∷ xs) = ap suc (length_map f xs)

position-map : {X Y : Type 0} (f : X → Y) (t : Y → Bool) (xs : List X) → position t (map f xs) ≡ position (λ x. t (f x)) xs
position-map f t xs = rw (prefix-map f (λ x. not (t x)) xs, length_map f xs)

find-map : {X Y : Type 0} (f : X → Y) (t : Y → Bool) (xs : List X) → find t (map f xs) ≡ opt f (find (λ x. t (f x)) xs)
find-map f t [] = refl
find-map f t (x ∷ xs) = by_test (t (f x)) (find-map f t xs)
  where
    by_test : (b : Bool) → find t (map f xs) ≡ opt f (find (λ x. t (f x)) xs) →
        (if b then Some (f x) else find t (map f xs)) ≡ opt f (if b then Some x else find (λ x. t (f x)) xs)
    by_test true h = refl
    by_test false h = h

get-map : {X Y : Type 0} (f : X → Y) (xs : List X) (i : ℕ) → slice_get (map f xs) i ≡ opt f (slice_get xs i)
get-map f [] i = refl
get-map f (x ∷ xs) zero = refl
get-map f (x ∷ xs) (suc i) = get-map f xs i

map_append : {X Y : Type 0} (f : X → Y) (xs ys : List X) → map f (xs ++ ys) ≡ map f xs ++ map f ys
map_append f [] ys = refl
map_append f (x ∷ xs) ys = ap (λ zs. f x ∷ zs) (map_append f xs ys)

map_twice : {X Y Z : Type 0} (f : X → Y) (g : Y → Z) (xs : List X) → map g (map f xs) ≡ map (λ x. g (f x)) xs
map_twice f g [] = refl
map_twice f g (x ∷ xs) = ap (λ zs. g (f x) ∷ zs) (map_twice f g xs)

infos-bare : (p : Protocol) (name : Name) → info_number (bare_protocol p) name ≡ info_number p name
infos-bare p name = position-map bare_param (λ i. bytes_eq i.name name) p.infos

messages-bare : (p : Protocol) (name : Name) → message_number (bare_protocol p) name ≡ message_number p name
messages-bare p name = position-map bare_message (λ i. bytes_eq i.name name) p.messages

states-bare : (p : Protocol) (name : Name) → state_number (bare_protocol p) name ≡ state_number p name
states-bare p name = position-map bare_state (λ i. bytes_eq i.name name) p.states

-- expressions
step-bare : (p : Protocol) (r : Running) (l : Expr-F Value) → value_step (bare_protocol p) (bare_running r) l ≡ value_step p r l
unfolding variable
step-bare p r Expr-F.Src = rw infos-bare
step-bare p r (Expr-F.Var name) = rw infos-bare
step-bare p r (Expr-F.Number n) = refl
step-bare p r _ = refl

value-bare : (p : Protocol) (r : Running) (e : Expr) → value_of (bare_protocol p) (bare_running r) e ≡ value_of p r e
unfolding value_of
value-bare p r e = ap (λ s. fold-Expr Value s e) (λ i l. step-bare p r l i)

values-bare : (p : Protocol) (r : Running) (es : List Expr) → values_of (bare_protocol p) (bare_running r) es ≡ values_of p r es
values-bare p r [] = refl
values-bare p r (e ∷ es) = rw (value-bare p r e, values-bare p r es)

-- statements
abbrev pub bare_layer : Layer → Layer
bare_layer (Do-F.If e first second) = Do-F.If e (bare_all first) (opt bare_all second)
bare_layer (Do-F.ForEach x e body) = Do-F.ForEach x e (bare_all body)
bare_layer (Do-F.Each x set body) = Do-F.Each x set (bare_all body)
bare_layer l = l

pub what-bare : (s : Stmt) → what_of (bare s) ≡ bare_layer (what_of s)
unfolding bare
what-bare s = rw fold_out-Stmt (rw fold_out-Do (rw out-roll-Do (by_layer (out-Do s.what))))
  where
    by_layer : (l : Layer) → map-Do Do Stmt Do Stmt (fold-Do Do Stmt roll-Do (λ s. record { what = s.what; line = 0 }))
        (fold-Stmt Do Stmt roll-Do (λ s. record { what = s.what; line = 0 })) l ≡ bare_layer l
    by_layer (Do-F.If e first None) = refl
    by_layer (Do-F.If e first (Some second)) = refl
    by_layer Do-F.Install = refl
    by_layer _ = refl

branch-bare : (x : Value) (first : List Stmt) (second : Option (List Stmt)) (rest : List Stmt) →
    branch x (bare_all first) (opt bare_all second) ++ bare_all rest ≡ bare_all (branch x first second ++ rest)
unfolding branch
branch-bare (v.Bool true) first second rest = sym (map_append bare first rest)
branch-bare (v.Bool false) first (Some second) rest = sym (map_append bare second rest)
branch-bare (v.Bool false) first None rest = refl
branch-bare (v.Int n) first (Some second) rest = sym (map_append bare second rest)
branch-bare (v.Int n) first None rest = refl
branch-bare (v.Node n) first (Some second) rest = sym (map_append bare second rest)
branch-bare (v.Node n) first None rest = refl
branch-bare (v.Set s) first (Some second) rest = sym (map_append bare second rest)
branch-bare (v.Set s) first None rest = refl

-- states
pub state-out : (s : StateVal) → out-StateVal (bare_val s) ≡ record
    { state = (out-StateVal s).state; args = (out-StateVal s).args; cont = opt bare_cont (out-StateVal s).cont }
unfolding bare_val bare_cont
state-out s =
    rw fold_out-StateVal (rw out-roll-StateVal (by_cont (out-StateVal s).state (out-StateVal s).args (out-StateVal s).cont))
  where
    by_cont : (n : ℕ) (args : List Value) (c : Option Cont) →
        map-StateVal Cont StateVal Cont StateVal bare_cont bare_val (record { state = n; args = args; cont = c })
        ≡ record { state = n; args = args; cont = opt bare_cont c }
    by_cont n args (Some c) = refl
    by_cont n args None = refl

pub state-roll : (n : ℕ) (args : List Value) (c : Option Cont) →
    bare_val (roll-StateVal (record { state = n; args = args; cont = c }))
    ≡ roll-StateVal (record { state = n; args = args; cont = opt bare_cont c })
unfolding bare_val bare_cont
state-roll n args (Some c) = fold-roll-StateVal _ _ _ _ _
state-roll n args None = fold-roll-StateVal _ _ _ _ _

pub cont-out : (k : Cont) → out-Cont (bare_cont k) ≡ record {
  rest = bare_all (out-Cont k).rest;
  vars = (out-Cont k).vars;
  came = (out-Cont k).came;
  saved = bare_val (out-Cont k).saved;
}
unfolding bare_val bare_cont
cont-out k = rw fold_out-Cont (rw out-roll-Cont refl)

pub cont-roll : (rest : List Stmt) (vars : List Bound) (came : Option Data) (s : StateVal) →
    bare_cont (roll-Cont (record { rest = rest; vars = vars; came = came; saved = s }))
    ≡ roll-Cont (record { rest = bare_all rest; vars = vars; came = came; saved = bare_val s })
unfolding bare_val bare_cont
cont-roll rest vars came s = fold-roll-Cont _ _ _ _ _

abbrev pub depth_cont : Cont → ℕ
depth_cont = fold-Cont ℕ ℕ (λ k. k.saved + 1) (λ s. unwrap_or s.cont 0)

abbrev pub SameDepth : StateVal → Type 0
SameDepth s = depth (bare_val s) ≡ depth s

abbrev pub SameContDepth : Cont → Type 0
SameContDepth k = depth_cont (bare_cont k) ≡ depth_cont k

depth-roll : (n : ℕ) (args : List Value) (c : Option Cont) →
    depth (roll-StateVal (record { state = n; args = args; cont = c })) ≡ unwrap_or (opt depth_cont c) 0
unfolding depth
depth-roll n args (Some c) = fold-roll-StateVal _ _ _ _ _
depth-roll n args None = fold-roll-StateVal _ _ _ _ _

depth_cont-roll : (rest : List Stmt) (vars : List Bound) (came : Option Data) (s : StateVal) →
    depth_cont (roll-Cont (record { rest = rest; vars = vars; came = came; saved = s })) ≡ depth s + 1
unfolding depth
depth_cont-roll rest vars came s = fold-roll-Cont _ _ _ _ _

same_depth-roll : (n : ℕ) (args : List Value) (c : Option ((k : Cont) × SameContDepth k)) →
    SameDepth (roll-StateVal (record { state = n; args = args; cont = opt (λ e. e.0) c }))
same_depth-roll n args (Some e) = ap depth (state-roll n args (Some e.0))
    ∙ (depth-roll n args (Some (bare_cont e.0)) ∙ (e.1 ∙ sym (depth-roll n args (Some e.0))))
same_depth-roll n args None = ap depth (state-roll n args None)

same_cont-roll : (rest : List Stmt) (vars : List Bound) (came : Option Data) (e : (s : StateVal) × SameDepth s) →
    SameContDepth (roll-Cont (record { rest = rest; vars = vars; came = came; saved = e.0 }))
same_cont-roll rest vars came e = ap depth_cont (cont-roll rest vars came e.0)
    ∙ (depth_cont-roll (bare_all rest) vars came (bare_val e.0)
    ∙ (ap (λ n. n + 1) e.1 ∙ sym (depth_cont-roll rest vars came e.0)))

depth-bare : (s : StateVal) → depth (bare_val s) ≡ depth s
depth-bare = ind-StateVal SameContDepth SameDepth
    (λ x y is. subst (λ z. SameContDepth (roll-Cont z)) is (same_cont-roll y.rest y.vars y.came y.saved))
    (λ x y is. subst (λ z. SameDepth (roll-StateVal z)) is (by_cont y.state y.args y.cont))
  where
    by_cont : (n : ℕ) (args : List Value) (c : Option ((k : Cont) × SameContDepth k)) →
        SameDepth (roll-StateVal (map-StateVal ((k : Cont) × SameContDepth k) ((s : StateVal) × SameDepth s) Cont StateVal
        (λ e. e.0) (λ e. e.0) (record { state = n; args = args; cont = c })))
    by_cont n args (Some e) = same_depth-roll n args (Some e)
    by_cont n args None = same_depth-roll n args None

payload-bare : (m : Option MessageDecl) (d : Data) → payload_of (opt bare_message m) d ≡ payload_of m d
unfolding payload_of
payload-bare (Some m) d = refl
payload-bare None d = refl

payloads-bare : (p : Protocol) (n : ℕ) (d : Data) → payload_of (slice_get (bare_protocol p).messages n) d
    ≡ payload_of (slice_get p.messages n) d
payloads-bare p n d = rw (get-map bare_message p.messages n, payload-bare (slice_get p.messages n) d)

assigned-bare : (r : Running) (name : Name) (x : Value) (i j : Option ℕ) →
    assigned_at (bare_running r) name x i j ≡ bare_running (assigned_at r name x i j)
assigned-bare r name x (Some i) j = refl
assigned-bare r name x None (Some j) = refl
assigned-bare r name x None None = refl

suspend-bare : (r : Running) (n : ℕ) (args : List Value) (rest : List Stmt) →
    suspends (bare_running r) n args (bare_all rest) ≡ bare_next (suspends r n args rest)
unfolding suspends ended
suspend-bare r n args rest = rw (depth-bare r.here.state) (by_depth (nat_le 8 (depth r.here.state)))
  where
    by_depth : (b : Bool) → (if b then Over (ended (bare_running r) TooDeep)
        else Over (ended (suspended (bare_running r) n args (bare_all rest)) Fine))
        ≡ bare_next (if b then Over (ended r TooDeep) else Over (ended (suspended r n args rest) Fine))
    by_depth true = refl
    by_depth false = rw (state-roll, cont-roll)

resume-bare : (r : Running) (c : Option Cont) → resumes (bare_running r) (opt bare_cont c) ≡ bare_next (resumes r c)
unfolding resumes ended
resume-bare r (Some k) = rw (cont-out k)
resume-bare r None = refl

each-bare : (x : Name) (set : List Bool) (body : List Stmt) → bare (each x set body) ≡ each x set (bare_all body)
unfolding bare
each-bare x set body = fold_out-Stmt Do Stmt roll-Do (λ s. record { what = s.what; line = 0 }) (each x set body)
    ∙ ap (λ d. record { what = d; line = 0 }) (fold-roll-Do Do Stmt roll-Do (λ s. record { what = s.what; line = 0 })
    (Do-F.Each x set body))

turn-bare : (p : Protocol) (x : Name) (set : List Bool) (o : Option ℕ) (body rest : List Stmt) (r : Running) →
    turned (bare_protocol p) x set o (bare_all body) (bare_all rest) (bare_running r) ≡ bare_next (turned p x set o body rest r)
unfolding assigned
turn-bare p x set None body rest r = refl
turn-bare p x set (Some n) body rest r =
    let again : bare_all (body ++ each x (without set n) body ∷ rest) ≡ bare_all body
    ++ each x (without set n) (bare_all body) ∷ bare_all rest = map_append bare body (each x (without set n) body ∷ rest)
    ∙ ap (λ s. bare_all body ++ s ∷ bare_all rest) (each-bare x (without set n) body) in
    rw (again, infos-bare p x) (ap (On (bare_all body ++ each x (without set n) (bare_all body) ∷ bare_all rest))
    (assigned-bare r x (v.Node n) (place_of x r.vars) (info_number p x)))

led-bare : (p : Protocol) (l : Layer) (rest : List Stmt) (r : Running) →
    led_to (bare_protocol p) (bare_layer l) (bare_all rest) (bare_running r) ≡ bare_next (led_to p l rest r)
unfolding assigned sent sent_all moved tagged turns ended
led-bare p (Do-F.Assign name e) rest r = rw (value-bare p r e, infos-bare p name)
    (ap (On (bare_all rest)) (assigned-bare r name (value_of p r e) (place_of name r.vars) (info_number p name)))
led-bare p (Do-F.If e first second) rest r = rw (value-bare p r e)
    (ap (λ x. On x (bare_running r)) (branch-bare (value_of p r e) first second rest))
led-bare p (Do-F.Send to name args) rest r = rw (
  value-bare p r to,
  messages-bare p name,
  values-bare p r args,
  payloads-bare p (declared (message_number p name)) r.here.words,
)
led-bare p (Do-F.SendAll to name args) rest r = rw (
  value-bare p r to,
  messages-bare p name,
  values-bare p r args,
  payloads-bare p (declared (message_number p name)) r.here.words,
)
led-bare p (Do-F.ForEach x e body) rest r = rw (value-bare p r e)
    (ap (λ s. On (s ∷ bare_all rest) (bare_running r)) (sym (each-bare x (set_of (value_of p r e)) body)))
led-bare p (Do-F.Each x set body) rest r = turn-bare p x set (least_of set) body rest r
led-bare p (Do-F.SetTag tag) rest r = refl
led-bare p (Do-F.SetState name args) rest r = rw (values-bare p r args, states-bare p name, state-out r.here.state, state-roll)
led-bare p (Do-F.Suspend label name args passed) rest r = rw (values-bare p r args, states-bare p name)
    (suspend-bare r (declared (state_number p name)) (values_of p r args) rest)
led-bare p (Do-F.Resume name) rest r = rw (state-out r.here.state) (resume-bare r (out-StateVal r.here.state).cont)
led-bare p Do-F.Install rest r = refl
led-bare p Do-F.Enqueue rest r = refl
led-bare p Do-F.WakeUp rest r = refl
led-bare p (Do-F.Error name) rest r = ap (λ names. Over (ended (bare_running r) (Failed (number_in names name))))
    (error_names-bare p)

pub next-bare : (p : Protocol) (stmts : List Stmt) (r : Running) →
    next_of (bare_protocol p) (bare_all stmts) (bare_running r) ≡ bare_next (next_of p stmts r)
unfolding ended
next-bare p [] r = refl
next-bare p (s ∷ rest) r = ap (λ l. led_to (bare_protocol p) l (bare_all rest) (bare_running r)) (what-bare s)
    ∙ led-bare p (what_of s) rest r

-- Without their lines the statements come to the same end, without its lines.
pub goes-bare : (p : Protocol) {stmts : List Stmt} {r : Running} {e : Ended} → Goes p stmts r e →
    Goes (bare_protocol p) (bare_all stmts) (bare_running r) (bare_ended e)
goes-bare p (ends h) = ends (next-bare p _ _ ∙ ap bare_next h)
goes-bare p (goes_on h g) = goes_on (next-bare p _ _ ∙ ap bare_next h) (goes-bare p g)

answers-bare : (p : Protocol) (k : Kind) (t : Trigger) → answers (bare_protocol p) k t ≡ answers p k t
answers-bare p kind.RdFault RdFault = refl
answers-bare p kind.RdFault WrFault = refl
answers-bare p kind.RdFault (Named name) = refl
answers-bare p kind.RdFault Default = refl
answers-bare p kind.WrFault RdFault = refl
answers-bare p kind.WrFault WrFault = refl
answers-bare p kind.WrFault (Named name) = refl
answers-bare p kind.WrFault Default = refl
answers-bare p (kind.Named n) RdFault = refl
answers-bare p (kind.Named n) WrFault = refl
answers-bare p (kind.Named n) Default = refl
answers-bare p (kind.Named n) (Named name) = ap (λ o. is_at o n) (messages-bare p name)

own-bare : (a b : Option Handler) → own_or (opt bare_handler a) (opt bare_handler b) ≡ opt bare_handler (own_or a b)
own-bare (Some a) b = refl
own-bare None b = refl

handler-bare : (p : Protocol) (k : Kind) (s : State) → handler_in (bare_protocol p) k (bare_state s)
    ≡ opt bare_handler (handler_in p k s)
unfolding handler_in
handler-bare p k s =
    ap (λ (t : Trigger → Bool). own_or (find (λ h. t h.on) (map bare_handler s.handlers)) (default_of (bare_state s)))
    (λ i t. answers-bare p k t i)
    ∙ (ap (λ o. own_or o (default_of (bare_state s))) (find-map bare_handler (λ h. answers p k h.on) s.handlers)
    ∙ (ap (own_or (opt bare_handler (find (λ h. answers p k h.on) s.handlers)))
    (find-map bare_handler (λ h. is_default h.on) s.handlers)
    ∙ own-bare (find (λ h. answers p k h.on) s.handlers) (default_of s)))

vars-bare : (s : State) (h : Handler) (here : Here) (m : Message) →
    vars_of (bare_state s) (bare_handler h) (bare_here here) m ≡ vars_of s h here m
unfolding vars_of
vars-bare s h here m = rw (
  state-out here.state,
  map_twice bare_param (λ a. a.name) s.params,
  map_twice bare_param local_of h.locals,
)

started-bare : (s : State) (h : Handler) (here : Here) (m : Message) →
    bare_running (started s h here m) ≡ started (bare_state s) (bare_handler h) (bare_here here) m
started-bare s h here m = ap (λ vars. record (bare_running (started s h here m)) { vars = vars }) (sym (vars-bare s h here m))

-- Without its lines a block is handled as before, without its lines.
pub does-bare : (p : Protocol) (here : Here) (m : Message) (e : Ended) → Does p here m e →
    Does (bare_protocol p) (bare_here here) m (bare_ended e)
does-bare p here m e d = record {
  state = bare_state d.state;
  handler = bare_handler d.handler;
  is_state = ap (λ x. slice_get (map bare_state p.states) x.state) (state-out here.state)
      ∙ (get-map bare_state p.states _ ∙ ap (opt bare_state) d.is_state);
  is_handler = handler-bare p m.kind d.state ∙ ap (opt bare_handler) d.is_handler;
  goes = subst (λ r. Goes (bare_protocol p) (bare_all d.handler.body) r (bare_ended e)) (started-bare d.state d.handler here m)
      (goes-bare p d.goes);
}
