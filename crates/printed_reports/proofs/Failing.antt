-- A handler fails by an error of its protocol, which has a name.
use Rattle.std.proofs.Common.{◌≡◌, ℕ, zero, suc, ◌+◌, ◌<◌, ◌||◌, Bool, true, false, cond, List, [], ◌∷◌, ◌++◌, length, Option}
use Rattle.std.proofs.Common.{Some, None, refl, sym, ap, ◌∙◌, subst, arith}
use Rattle.std.specs.Prelude.{Contains, nat_le, nat_lt, not, unwrap_or}
use Rattle.std.specs.List.{flat_map, fold, list_any, position_or_len}
use Rattle.std.specs.Str.{bytes_eq}
use Rattle.std.proofs.lemmas.Bool.{lt-ltb}
use Rattle.std.proofs.lemmas.List.Concat.{flat_map-append}
use Rattle.std.proofs.lemmas.Slice.Eq.{bytes_eq-Decides}
use Rattle.tw_base.specs.Lists.{Each}
use Rattle.tw_base.specs.NodeSets.{without}
use Rattle.tw_base.specs.declared.entry.End.TheVariants.{Fine, TooDeep}
use Rattle.tw_base.specs.declared.message.Message.{Message}
use Rattle.tw_base.specs.declared.name.Name.{Name}
use Rattle.tw_base.specs.declared.value.Value.{Value}
use Rattle.tw_base.specs.declared.value.Value.TheVariants as v
use Rattle.teapot_tree.specs.declared.protocol.Handler.{Handler}
use Rattle.teapot_tree.specs.declared.protocol.Protocol.{Protocol}
use Rattle.teapot_tree.specs.declared.protocol.State.{State}
use Rattle.teapot_tree.specs.declared.stmt.Do.{Do, out-roll-Do, fold_out-Do, map-Do}
use Rattle.teapot_tree.specs.declared.stmt.Do.TheOpen.{Do-F}
use Rattle.teapot_tree.specs.declared.stmt.Stmt.{Stmt, fold_out-Stmt}
use Rattle.teapot_tree.specs.Scopes.{state_number}
use Rattle.teapot_meaning.specs.Depth.{depth}
use Rattle.teapot_meaning.specs.Does.{Does}
use Rattle.teapot_meaning.specs.Fits.{ContFits, Fits, FollowsSuspend, IsLeftBy, at_suspend, fits_below, in_each, in_first}
use Rattle.teapot_meaning.specs.Fits.{in_loop, in_second, later}
use Rattle.teapot_meaning.specs.Goes.{Goes, ends, goes_on}
use Rattle.teapot_meaning.specs.Layers.{Layer, what_of}
use Rattle.teapot_meaning.specs.Names.{declared, error_names, errors_in, errors_of, errors_step, info_number, noted, number_in}
use Rattle.teapot_meaning.specs.Names.{state_errors}
use Rattle.teapot_meaning.specs.Steps.{assigned, assigned_at, branch, each, ended, least_of, led_to, moved, next_of, place_of}
use Rattle.teapot_meaning.specs.Steps.{resumes, sent, sent_all, set_of, suspended, suspends, tagged, turned, turns, values_of}
use Rattle.teapot_meaning.specs.Values.{value_of}
use Rattle.teapot_meaning.specs.declared.state.Cont.{Cont, out-Cont}
use Rattle.teapot_meaning.specs.declared.state.Ended.{Ended}
use Rattle.teapot_meaning.specs.declared.state.Here.{Here}
use Rattle.teapot_meaning.specs.declared.state.Next.{Next}
use Rattle.teapot_meaning.specs.declared.state.Next.TheVariants.{On, Over}
use Rattle.teapot_meaning.specs.declared.state.Running.{Running}
use Rattle.teapot_meaning.specs.declared.state.StateVal.{StateVal, out-StateVal, out-roll-StateVal}
use Rattle.teapot_meaning.proofs.Found.{each_both, each_flat, each_left, each_right, slice_has}
use Rattle.teapot_meaning.proofs.Starting.{taker}
use Rattle.printed_reports.specs.Named.{IsEndOf}
use Rattle.printed_reports.proofs.Errors.{joined-map, of_do}

-- ---- the errors of a statement, by what it does

abbrev layer_errors : Layer → List Name
layer_errors (Do-F.If e first second) = errors_in first ++ errors_in (unwrap_or second [])
layer_errors (Do-F.ForEach x e body) = errors_in body
layer_errors (Do-F.Each x set body) = errors_in body
layer_errors (Do-F.Error name) = name ∷ []
layer_errors _ = []

by-layer : (l : Layer) → errors_step (map-Do Do Stmt (List Name) (List Name) of_do errors_of l) ≡ layer_errors l
by-layer (Do-F.If e first None) = ap (λ names. names ++ []) (joined-map first)
by-layer (Do-F.If e first (Some second)) = rw (joined-map first, joined-map second) refl
by-layer (Do-F.ForEach x e body) = joined-map body
by-layer (Do-F.Each x set body) = joined-map body
by-layer (Do-F.Error name) = refl
by-layer _ = refl

errors-out : (s : Stmt) → errors_of s ≡ errors_step (map-Do Do Stmt (List Name) (List Name) of_do errors_of (what_of s))
unfolding errors_of
errors-out s = fold_out-Stmt (List Name) (List Name) errors_step (λ x. x.what) s ∙ fold_out-Do (List Name)
    (List Name) errors_step (λ x. x.what) s.what

errors-is : (s : Stmt) → errors_of s ≡ layer_errors (what_of s)
errors-is s = errors-out s ∙ by-layer (what_of s)

errors-append : (xs ys : List Stmt) → errors_in (xs ++ ys) ≡ errors_in xs ++ errors_in ys
errors-append xs ys = flat_map-append errors_of xs ys

-- ---- the table of names

-- the name is there
abbrev IsThere : List Name → Name → Type 0
IsThere names name = list_any (λ n. bytes_eq n name) names ≡ true

or-left : (a b : Bool) → a ≡ true → (a || b) ≡ true
or-left true b e = refl
or-left false b e = absurd cc

or-right : (a b : Bool) → b ≡ true → (a || b) ≡ true
or-right true b e = refl
or-right false b e = e

there-left : (xs ys : List Name) (name : Name) → IsThere xs name → IsThere (xs ++ ys) name
there-left [] ys name e = absurd cc
there-left (x ∷ xs) ys name e = by (bytes_eq x name) e (there-left xs ys name)
  where
    by : (b : Bool) → (b || list_any (λ n. bytes_eq n name) xs) ≡ true → (IsThere xs name → IsThere (xs ++ ys) name)
        → (b || list_any (λ n. bytes_eq n name) (xs ++ ys)) ≡ true
    by true h more = refl
    by false h more = more h

there-last : (xs : List Name) (name : Name) → IsThere (xs ++ name ∷ []) name
there-last [] name = or-left (bytes_eq name name) false ((bytes_eq-Decides name name).1 refl)
there-last (x ∷ xs) name = or-right (bytes_eq x name) _ (there-last xs name)

noted-there : (names : List Name) (more name : Name) → IsThere names name → IsThere (noted names more) name
noted-there names more name h = by (list_any (λ n. bytes_eq n more) names)
  where
    by : (b : Bool) → IsThere (cond b names (names ++ more ∷ [])) name
    by true = h
    by false = there-left names (more ∷ []) name h

noted-it : (names : List Name) (name : Name) → IsThere (noted names name) name
noted-it names name = by (list_any (λ n. bytes_eq n name) names) refl
  where
    by : (b : Bool) → list_any (λ n. bytes_eq n name) names ≡ b → IsThere (cond b names (names ++ name ∷ [])) name
    by true e = e
    by false e = there-last names name

fold-there : (more names : List Name) (name : Name) → IsThere names name → IsThere (fold noted names more) name
fold-there [] names name h = h
fold-there (n ∷ more) names name h = fold-there more (noted names n) name (noted-there names n name h)

fold-all : (more names : List Name) → Each (IsThere (fold noted names more)) more
fold-all [] names = tt
fold-all (n ∷ more) names = (fold-there more (noted names n) n (noted-it names n), fold-all more (noted names n))

-- where it is there, it has a place
place-below : (names : List Name) (name : Name) → IsThere names name → position_or_len
    (λ n. bytes_eq n name) names < length names
place-below [] name e = absurd cc
place-below (n ∷ names) name e = by (bytes_eq n name) e (place-below names name)
  where
    by : (b : Bool) → (b || list_any (λ m. bytes_eq m name) names) ≡ true
        → (IsThere names name → position_or_len (λ m. bytes_eq m name) names < length names)
        → cond (not b) (1 + position_or_len (λ m. bytes_eq m name) names) 0 < length (n ∷ names)
    by true h more = omega arith
    by false h more = let lt = more h in omega arith

number-below : (names : List Name) (name : Name) → IsThere names name → number_in names name < length names
number-below names name h =
    let k = position_or_len (λ n. bytes_eq n name) names in
    let lt : k < length names = place-below names name h in
    let some : nat_lt k (length names) ≡ true = lt-ltb k (length names) lt in
    rw some (omega (arith, lt))

-- ---- what a handler has while it runs

module _ (p : Protocol) where
  abbrev Known : Name → Type 0
  Known name = IsThere (error_names p) name

  abbrev AreKnown : List Stmt → Type 0
  AreKnown ss = Each Known (errors_in ss)

  -- the errors of the rest are known, and so on down the states that were left
  abbrev ContKnown : (StateVal → Type 0) → Option Cont → Type 0
  ContKnown Saved None = Unit {0}
  ContKnown Saved (Some k) = AreKnown (out-Cont k).rest × Saved (out-Cont k).saved

  unfoldable StateKnown : ℕ → StateVal → Type 0
  StateKnown zero x = ⊥
  StateKnown (suc n) x = ContKnown (StateKnown n) (out-StateVal x).cont

  abbrev Leads : Next → Type 0
  Leads (On rest r) = AreKnown rest × (n : ℕ) × StateKnown n r.here.state
  Leads (Over e) = IsEndOf p e.end

  head-known : (s : Stmt) (rest : List Stmt) → AreKnown (s ∷ rest) → Each Known (layer_errors (what_of s))
  head-known s rest h = subst (Each Known) (errors-is s) (each_left Known (errors_of s) (errors_in rest) h)

  tail-known : (s : Stmt) (rest : List Stmt) → AreKnown (s ∷ rest) → AreKnown rest
  tail-known s rest h = each_right Known (errors_of s) (errors_in rest) h

  both-known : (xs ys : List Stmt) → AreKnown xs → AreKnown ys → AreKnown (xs ++ ys)
  both-known xs ys h k = subst (Each Known) (sym (errors-append xs ys)) (each_both Known (errors_in xs) (errors_in ys) h k)

  -- a loop on its way, before others
  each-known : (x : Name) (set : List Bool) (body rest : List Stmt) → AreKnown body → AreKnown rest
      → AreKnown (each x set body ∷ rest)
  each-known x set body rest h k =
      let same : errors_of (each x set body) ≡ errors_in body = errors-is (each x set body) ∙ ap layer_errors
      (out-roll-Do (Do-F.Each x set body)) in
      each_both Known (errors_of (each x set body)) (errors_in rest) (subst (Each Known) (sym same) h) k

  branch-known : (value : Value) (first : List Stmt) (second : Option (List Stmt))
      → Each Known (errors_in first ++ errors_in (unwrap_or second [])) → AreKnown (branch value first second)
  unfolding branch
  branch-known (v.Bool true) first second h = each_left Known (errors_in first) _ h
  branch-known (v.Bool false) first second h = each_right Known (errors_in first) _ h
  branch-known (v.Int n) first second h = each_right Known (errors_in first) _ h
  branch-known (v.Node n) first second h = each_right Known (errors_in first) _ h
  branch-known (v.Set s) first second h = each_right Known (errors_in first) _ h

  same-at : (r : Running) (name : Name) (value : Value) (o i : Option ℕ)
      → (assigned_at r name value o i).here.state ≡ r.here.state
  same-at r name value (Some k) i = refl
  same-at r name value None (Some k) = refl
  same-at r name value None None = refl

  same-assigned : (r : Running) (name : Name) (value : Value) → (assigned p r name value).here.state ≡ r.here.state
  unfolding assigned
  same-assigned r name value = same-at r name value (place_of name r.vars) (info_number p name)

  assigned-known : (n : ℕ) (r : Running) (name : Name) (value : Value) → StateKnown n r.here.state
      → StateKnown n (assigned p r name value).here.state
  assigned-known n r name value h = subst (StateKnown n) (sym (same-assigned r name value)) h

  moved-known : (n : ℕ) (r : Running) (state : ℕ) (args : List Value) → StateKnown n r.here.state
      → StateKnown n (moved r state args).here.state
  unfolding StateKnown moved
  moved-known zero r state args h = h
  moved-known (suc n) r state args h = subst (λ x. ContKnown (StateKnown n) x.cont)
      (sym (out-roll-StateVal (record { state = state; args = args; cont = (out-StateVal r.here.state).cont }))) h

  suspends-end : (b : Bool) (r s : Running) → Leads (cond b (Over (ended r TooDeep)) (Over (ended s Fine)))
  unfolding ended
  suspends-end true r s = tt
  suspends-end false r s = tt

  resumes-known : (n : ℕ) (r : Running) (o : Option Cont) → ContKnown (StateKnown n) o → Leads (resumes r o)
  unfolding resumes ended
  resumes-known n r None h = tt
  resumes-known n r (Some k) h = (h.0, n, h.1)

  resume-known : (n : ℕ) (r : Running) → StateKnown n r.here.state → Leads (resumes r (out-StateVal r.here.state).cont)
  unfolding StateKnown
  resume-known zero r h = absurd h
  resume-known (suc n) r h = resumes-known n r (out-StateVal r.here.state).cont h

  turned-known : (n : ℕ) (x : Name) (set : List Bool) (o : Option ℕ) (body rest : List Stmt) (r : Running) → AreKnown body
      → AreKnown rest → StateKnown n r.here.state → Leads (turned p x set o body rest r)
  turned-known n x set None body rest r h k here = (k, n, here)
  turned-known n x set (Some node) body rest r h k here = (
    both-known body (each x (without set node) body ∷ rest) h
        (each-known x (without set node) body rest h k),
    n,
    assigned-known n r x (v.Node node) here,
  )

  led-known : (n : ℕ) (l : Layer) (rest : List Stmt) (r : Running) → Each Known (layer_errors l) → AreKnown rest
      → StateKnown n r.here.state → Leads (led_to p l rest r)
  unfolding sent sent_all tagged suspends turns ended
  led-known n (Do-F.Assign name e) rest r h k here = (k, n, assigned-known n r name (value_of p r e) here)
  led-known n (Do-F.If e first second) rest r h k here = (
    both-known (branch (value_of p r e) first second) rest
        (branch-known (value_of p r e) first second h) k,
    n,
    here,
  )
  led-known n (Do-F.Send to name args) rest r h k here = (k, n, here)
  led-known n (Do-F.SendAll to name args) rest r h k here = (k, n, here)
  led-known n (Do-F.SetTag tag) rest r h k here = (k, n, here)
  led-known n (Do-F.SetState name args) rest r h k here = (
    k,
    n,
    moved-known n r (declared (state_number p name))
        (values_of p r args) here,
  )
  led-known n (Do-F.Suspend label name args passed) rest r h k here = suspends-end (nat_le 8 (depth r.here.state)) r
      (suspended r (declared (state_number p name)) (values_of p r args) rest)
  led-known n (Do-F.Resume name) rest r h k here = resume-known n r here
  led-known n (Do-F.ForEach x e body) rest r h k here = (each-known x (set_of (value_of p r e)) body rest h k, n, here)
  led-known n (Do-F.Each x set body) rest r h k here = turned-known n x set (least_of set) body rest r h k here
  led-known n Do-F.Install rest r h k here = (k, n, here)
  led-known n Do-F.Enqueue rest r h k here = (k, n, here)
  led-known n Do-F.WakeUp rest r h k here = (k, n, here)
  led-known n (Do-F.Error name) rest r h k here = number-below (error_names p) name h.0

  next-known : (n : ℕ) (stmts : List Stmt) (r : Running) → AreKnown stmts → StateKnown n r.here.state
      → Leads (next_of p stmts r)
  unfolding ended
  next-known n [] r h here = tt
  next-known n (s ∷ rest) r h here = led-known n (what_of s) rest r (head-known s rest h) (tail-known s rest h) here

  goes-known : (n : ℕ) {stmts : List Stmt} {r : Running} {e : Ended} → Goes p stmts r e → AreKnown stmts
      → StateKnown n r.here.state → IsEndOf p e.end
  goes-known n {stmts = stmts} {r = r} (ends {e = e} is) h here = subst Leads is (next-known n stmts r h here)
  goes-known n {stmts = stmts} {r = r} (goes_on is more) h here =
      let x = subst Leads is (next-known n stmts r h here) in
      goes-known x.1 more x.0 x.2

  -- ---- at a block of a run

  -- the rest behind a Suspend
  rest-known : {stmts rest : List Stmt} → FollowsSuspend stmts rest → AreKnown stmts → AreKnown rest
  rest-known (at_suspend {s = s} {rest = rest} e) h = tail-known s rest h
  rest-known (later {s = s} {stmts = stmts} f) h = rest-known f (tail-known s stmts h)
  rest-known (in_first {s = s} {stmts = stmts} {first = first} {e = e} {second = second} is f) h =
      let parts = subst (λ l. Each Known (layer_errors l)) is (head-known s stmts h) in
      rest-known f (both-known first stmts (each_left Known (errors_in first) (errors_in (unwrap_or second [])) parts)
      (tail-known s stmts h))
  rest-known (in_second {s = s} {stmts = stmts} {first = first} {e = e} {second = second} is f) h =
      let parts = subst (λ l. Each Known (layer_errors l)) is (head-known s stmts h) in
      rest-known f
      (both-known (unwrap_or second []) stmts (each_right Known (errors_in first) (errors_in (unwrap_or second [])) parts)
      (tail-known s stmts h))
  rest-known (in_loop {s = s} {stmts = stmts} {body = body} {x = x} {e = e} set is few f) h =
      let parts = subst (λ l. Each Known (layer_errors l)) is (head-known s stmts h) in
      rest-known f (both-known body (each x set body ∷ stmts) parts (each-known x set body stmts parts (tail-known s stmts h)))
  rest-known (in_each {s = s} {stmts = stmts} {body = body} {x = x} {was = was} set is few f) h =
      let parts = subst (λ l. Each Known (layer_errors l)) is (head-known s stmts h) in
      rest-known f (both-known body (each x set body ∷ stmts) parts (each-known x set body stmts parts (tail-known s stmts h)))

  all-known : Each Known (flat_map state_errors p.states)
  unfolding error_names
  all-known = fold-all (flat_map state_errors p.states) []

  handler-known : (t : State) (h : Handler) → Contains p.states t → Contains t.handlers h → AreKnown h.body
  handler-known t h in_states in_handlers =
      each_flat Known (λ (x : Handler). errors_in x.body) t.handlers h in_handlers
      (each_flat Known state_errors p.states t in_states all-known)

  cont-known : (n words : ℕ) (t : State) (o : Option Cont) → ((x : StateVal) → fits_below n p words x → StateKnown n x)
      → ContFits (fits_below n p words) p words t o → ContKnown (StateKnown n) o
  cont-known n words t None go c = tt
  cont-known n words t (Some k) go c =
      let left : IsLeftBy p words c.2 c.3 k = c.5 in
      (rest-known left.rest (handler-known c.2 c.3 c.4 left.handler), go (out-Cont k).saved c.1)

  state-known : (n words : ℕ) (x : StateVal) → fits_below n p words x → StateKnown n x
  unfolding StateKnown fits_below
  state-known zero words x h = h
  state-known (suc n) words x h = cont-known n words h.state (out-StateVal x).cont (state-known n words) h.cont

  -- where a handler fails, its error has a name
  pub does-end : (here : Here) (m : Message) (e : Ended) → Fits p here → Does p here m e → IsEndOf p e.end
  does-end here m e fits does =
      let from : StateKnown 9 here.state = state-known 9 (length here.words) here.state fits.state in
      goes-known 9 does.goes (handler-known does.state does.handler (slice_has p.states _ does.state does.is_state)
      (taker p m.kind does.state does.handler does.is_handler).0) from
