-- Each step costs its price, and leaves less by that.
use Rattle.std.proofs.Common.{◌≡◌, ◌∙◌, sym, ℕ, ◌+◌, ◌*◌, length, ◌≤◌, List, [], ◌∷◌, Option, Some, None, Bool, true, false}
use Rattle.std.proofs.Common.{max, refl, ap, subst, arith}
use Rattle.std.specs.Prelude.{if◌then◌else◌, nat_le, unwrap_or}
use Rattle.tw_base.specs.NodeSets.{without}
use Rattle.tw_base.specs.declared.name.Name.{Name}
use Rattle.tw_base.specs.declared.value.Value.{Value}
use Rattle.tw_base.specs.declared.value.Value.TheVariants as v
use Rattle.teapot_tree.specs.declared.protocol.Protocol.{Protocol}
use Rattle.teapot_tree.specs.declared.stmt.Do.TheOpen.{Do-F}
use Rattle.teapot_tree.specs.declared.stmt.Stmt.{Stmt}
use Rattle.teapot_tree.specs.Bodies.{Body, done, plain, branch, branches, loop, each, body_of}
use Rattle.teapot_tree.specs.Scopes.{state_number}
use Rattle.teapot_meaning.specs.Depth.{depth, nodes_in}
use Rattle.teapot_meaning.specs.Layers.{Layer, what_of}
use Rattle.teapot_meaning.specs.Names.{declared}
use Rattle.teapot_meaning.specs.Steps.{led_to, assigned, assigned_at, branch as branch_taken, each as each_left, least_of}
use Rattle.teapot_meaning.specs.Steps.{moved, next_of, resumes, sent, sent_all, set_of, suspends, tagged, turned, turns}
use Rattle.teapot_meaning.specs.Steps.{values_of}
use Rattle.teapot_meaning.specs.Values.{value_of}
use Rattle.teapot_meaning.specs.declared.state.Cont.{Cont}
use Rattle.teapot_meaning.specs.declared.state.Ended.{Ended}
use Rattle.teapot_meaning.specs.declared.state.Next.{Next}
use Rattle.teapot_meaning.specs.declared.state.Next.TheVariants.{On, Over}
use Rattle.teapot_meaning.specs.declared.state.Running.{Running}
use Rattle.teapot_meaning.specs.declared.state.StateVal.{out-StateVal}
use Rattle.teapot_meaning.proofs.Members.{nodes_few, nodes_rest}
use Rattle.teapot_rules.specs.Stmts.{layer_body}
use Rattle.teapot_sends.specs.Prices.{Price, in_text, ahead_of, owed}
use Rattle.teapot_sends.proofs.Bodies.{ahead-le, turns-le}
use Rattle.teapot_sends.proofs.Kept.{cont_owed, owed-is, owed-roll}
use Rattle.teapot_sends.proofs.Rests.{ahead-both, ahead-each, ahead-first, layer_ahead}

module _ (c : Price) where
  -- the price of a step
  abbrev first_price : Body → ℕ
  first_price done = 0
  first_price (plain line s b) = c.simple s
  first_price (branch line e x b) = c.turn
  first_price (branches line e x y b) = c.turn
  first_price (loop line v e x b) = c.turn
  first_price (each line v set x b) = c.turn

  abbrev pub price : Layer → ℕ
  price l = first_price (layer_body 0 l)

  -- what is left to pay
  abbrev pub due : List Stmt → Running → ℕ
  due stmts r = ahead_of c stmts + owed c r.here.state

  -- so much was paid, and what is left is within the rest
  abbrev pub Pays : ℕ → ℕ → Next → Type 0
  Pays n paid (On rest r) = paid + due rest r ≤ n
  Pays n paid (Over e) = paid ≤ n

  assigned-state : (r : Running) (name : Name) (x : Value) (i j : Option ℕ) → (assigned_at r name x i j).here.state ≡ r.here.state
  assigned-state r name x (Some i) j = refl
  assigned-state r name x None (Some i) = refl
  assigned-state r name x None None = refl

  branch-le : (x : Value) (first : List Stmt) (second : Option (List Stmt)) →
      ahead_of c (branch_taken x first second) ≤ max (in_text c (body_of first)) (in_text c (body_of (unwrap_or second [])))
  unfolding branch_taken
  branch-le (v.Bool true) first second = let i = ahead-le c (body_of first) in omega arith
  branch-le (v.Bool false) first second = let i = ahead-le c (body_of (unwrap_or second [])) in omega arith
  branch-le (v.Int n) first second = let i = ahead-le c (body_of (unwrap_or second [])) in omega arith
  branch-le (v.Node n) first second = let i = ahead-le c (body_of (unwrap_or second [])) in omega arith
  branch-le (v.Set s) first second = let i = ahead-le c (body_of (unwrap_or second [])) in omega arith

  -- ---- statements

  suspended_pays : (n paid : ℕ) (b : Bool) (d e : Ended) → paid ≤ n → Pays n paid (if b then Over d else Over e)
  suspended_pays n paid true d e le = le
  suspended_pays n paid false d e le = le

  resumed_pays : (paid : ℕ) (rest : List Stmt) (r : Running) (o : Option Cont) → owed c r.here.state ≡ cont_owed c o →
      Pays (paid + 0 + due rest r) paid (resumes r o)
  unfolding resumes
  resumed_pays paid rest r (Some k) e = omega arith
  resumed_pays paid rest r None e = omega arith

  begun_pays : (x : Name) (set : List Bool) (body rest : List Stmt) (r : Running)
      → Pays (8 * (c.turn + in_text c (body_of body)) + 2 * c.turn + 0 + due rest r) c.turn (On (each_left x set body ∷ rest) r)
  begun_pays x set body rest r =
      let few = turns-le (length (nodes_in set)) 8 (c.turn + in_text c (body_of body)) (nodes_few set) in
      let all = ahead-each c x set body rest in
      omega arith

  one_more : (k n m : ℕ) → k + 1 ≡ n → n * m ≡ k * m + m
  one_more k n m e = ap (λ i. i * m) (sym e) ∙ grind arith

  turned_pays : (p : Protocol) (x : Name) (set : List Bool) (o : Option ℕ) (body rest : List Stmt) (r : Running) →
      least_of set ≡ o
      → Pays (length (nodes_in set) * (c.turn + in_text c (body_of body)) + c.turn + 0 + due rest r) c.turn
      (turned p x set o body rest r)
  unfolding assigned
  turned_pays p x set None body rest r e = omega arith
  turned_pays p x set (Some n) body rest r e =
      let again = each_left x (without set n) body in
      let all = ahead-both c body (again ∷ rest) in
      let more = ahead-each c x (without set n) body rest in
      let once = ahead-le c (body_of body) in
      let fewer = one_more (length (nodes_in (without set n))) (length (nodes_in set)) (c.turn + in_text c (body_of body))
      (nodes_rest set n e) in
      rw assigned-state (omega arith)

  layer_pays : (p : Protocol) (l : Layer) (rest : List Stmt) (r : Running) →
      Pays (layer_ahead c l + due rest r) (price l) (led_to p l rest r)
  unfolding assigned sent sent_all moved suspends tagged turns
  layer_pays p (Do-F.Assign name e) rest r = rw assigned-state (omega arith)
  layer_pays p (Do-F.If e first None) rest r =
      let one = branch-le (value_of p r e) first None in
      let all = ahead-both c (branch_taken (value_of p r e) first None) rest in
      omega arith
  layer_pays p (Do-F.If e first (Some second)) rest r =
      let one = branch-le (value_of p r e) first (Some second) in
      let all = ahead-both c (branch_taken (value_of p r e) first (Some second)) rest in
      omega arith
  layer_pays p (Do-F.Send to name args) rest r = omega arith
  layer_pays p (Do-F.SendAll to name args) rest r = omega arith
  layer_pays p (Do-F.SetTag tag) rest r = omega arith
  layer_pays p (Do-F.SetState name args) rest r =
      let was = owed-is c r.here.state in
      let is =
      owed-roll c (record {
        state = declared (state_number p name);
        args = values_of p r args;
        cont = (out-StateVal r.here.state).cont;
      }) in
      omega arith
  layer_pays p (Do-F.Suspend label name args passed) rest r = suspended_pays _ _ (nat_le 8 (depth r.here.state)) _ _ (omega arith)
  layer_pays p (Do-F.Resume name) rest r = resumed_pays _ rest r (out-StateVal r.here.state).cont (owed-is c r.here.state)
  layer_pays p (Do-F.ForEach x e body) rest r = begun_pays x (set_of (value_of p r e)) body rest r
  layer_pays p (Do-F.Each x set body) rest r = turned_pays p x set (least_of set) body rest r refl
  layer_pays p Do-F.Install rest r = omega arith
  layer_pays p Do-F.Enqueue rest r = omega arith
  layer_pays p Do-F.WakeUp rest r = omega arith
  layer_pays p (Do-F.Error name) rest r = omega arith

  pub step_pays : (p : Protocol) (s : Stmt) (rest : List Stmt) (r : Running) →
      Pays (due (s ∷ rest) r) (price (what_of s)) (next_of p (s ∷ rest) r)
  step_pays p s rest r =
      let e : layer_ahead c (what_of s) + due rest r ≡ due (s ∷ rest) r = omega (arith, ahead-first c s rest (what_of s) refl) in
      subst (λ n. Pays n (price (what_of s)) (next_of p (s ∷ rest) r)) e (layer_pays p (what_of s) rest r)
