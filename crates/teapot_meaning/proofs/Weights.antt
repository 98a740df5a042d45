-- Each step leaves less to do.
use Rattle.std.proofs.Common.{◌≡◌, ◌∙◌, sym, ℕ, ◌+◌, ◌*◌, ◌++◌, length, ◌≤◌, ◌<◌, List, [], ◌∷◌, Option, Some, None, Bool, true}
use Rattle.std.proofs.Common.{false, refl, ap, subst, arith}
use Rattle.std.specs.Prelude.{if◌then◌else◌, unwrap_or}
use Rattle.std.proofs.Math.Nat.{mul-le-mul_right}
use Rattle.tw_base.specs.NodeSets.{without}
use Rattle.std.proofs.lemmas.List.Sums.{sum-map, sum_by-append, sum_by-cons}
use Rattle.tw_base.specs.declared.name.Name.{Name}
use Rattle.tw_base.specs.declared.value.Value.{Value}
use Rattle.tw_base.specs.declared.value.Value.TheVariants as v
use Rattle.teapot_tree.specs.declared.protocol.Protocol.{Protocol}
use Rattle.teapot_tree.specs.declared.stmt.Do.{Do, out-Do, out-roll-Do, fold-Do, fold_out-Do, map-Do}
use Rattle.teapot_tree.specs.declared.stmt.Do.TheOpen.{Do-F}
use Rattle.teapot_tree.specs.declared.stmt.Stmt.{Stmt, fold-Stmt, fold_out-Stmt}
use Rattle.teapot_meaning.specs.Layers.{Layer, what_of}
use Rattle.teapot_tree.specs.Scopes.{state_number}
use Rattle.teapot_meaning.specs.declared.state.Cont.{Cont, out-Cont, fold-Cont, fold_out-Cont}
use Rattle.teapot_meaning.specs.declared.state.Cont.TheOpen.{StateVal-F}
use Rattle.teapot_meaning.specs.declared.state.Ended.{Ended}
use Rattle.teapot_meaning.specs.declared.state.Next.TheVariants.{On, Over}
use Rattle.teapot_meaning.specs.declared.state.Running.{Running}
use Rattle.teapot_meaning.specs.declared.state.StateVal.{StateVal, out-StateVal, roll-StateVal, fold_out-StateVal}
use Rattle.teapot_meaning.specs.declared.state.StateVal.{fold-roll-StateVal, map-StateVal}
use Rattle.teapot_meaning.specs.Depth.{nodes_in, weighed, weight, weight_of_all, kept_weight, work}
use Rattle.teapot_meaning.specs.Names.{declared}
use Rattle.teapot_meaning.specs.Steps.{led_to, assigned, assigned_at, branch, each, least_of, moved, next_of, resumes, sent}
use Rattle.teapot_meaning.specs.Steps.{sent_all, set_of, suspends, tagged, turned, turns, values_of}
use Rattle.teapot_meaning.proofs.Members.{nodes_few, nodes_rest}
use Rattle.teapot_meaning.specs.Values.{value_of}

-- the weight of one level
abbrev pub layer_weight : Layer → ℕ
layer_weight (Do-F.If e first second) = weight_of_all first + weight_of_all (unwrap_or second []) + 1
layer_weight (Do-F.ForEach x e body) = 8 * (weight_of_all body + 1) + 2
layer_weight (Do-F.Each x set body) = length (nodes_in set) * (weight_of_all body + 1) + 1
layer_weight _ = 1

layer_weight-is : (d : Do) → fold-Do ℕ ℕ weighed (λ s. s.what) d ≡ layer_weight (out-Do d)
layer_weight-is d = rw fold_out-Do (by_layer (out-Do d))
  where
    by_layer : (l : Layer) →
        weighed (map-Do Do Stmt ℕ ℕ (fold-Do ℕ ℕ weighed (λ s. s.what)) (fold-Stmt ℕ ℕ weighed (λ s. s.what)) l)
        ≡ layer_weight l
    by_layer (Do-F.If e first None) = ap (λ n. n + 0 + 1) (sum-map weight first)
    by_layer (Do-F.If e first (Some second)) = omega (arith, sum-map weight first, sum-map weight second)
    by_layer (Do-F.ForEach x e body) = ap (λ n. 8 * (n + 1) + 2) (sum-map weight body)
    by_layer (Do-F.Each x set body) = ap (λ n. length (nodes_in set) * (n + 1) + 1) (sum-map weight body)
    by_layer _ = refl

pub weight-is : (s : Stmt) → weight s ≡ layer_weight (what_of s)
weight-is s = rw fold_out-Stmt (layer_weight-is s.what)

-- what can be resumed
abbrev pub cont_weight : Option Cont → ℕ
cont_weight (Some k) = weight_of_all (out-Cont k).rest + kept_weight (out-Cont k).saved
cont_weight None = 0

kept_weight_by : (n : ℕ) (args : List Value) (o : Option Cont) →
    unwrap_or (map-StateVal Cont StateVal ℕ ℕ (fold-Cont ℕ ℕ (λ k. weight_of_all k.rest + k.saved) (λ s. unwrap_or s.cont 0))
    kept_weight (record { state = n; args = args; cont = o })).cont 0 ≡ cont_weight o
kept_weight_by n args (Some k) = fold_out-Cont ℕ ℕ (λ k. weight_of_all k.rest + k.saved) (λ s. unwrap_or s.cont 0) k
kept_weight_by n args None = refl

pub kept_weight-is : (s : StateVal) → kept_weight s ≡ cont_weight (out-StateVal s).cont
kept_weight-is s = rw fold_out-StateVal (kept_weight_by (out-StateVal s).state (out-StateVal s).args (out-StateVal s).cont)

pub kept_weight-roll : (d : StateVal-F Cont StateVal) → kept_weight (roll-StateVal d) ≡ cont_weight d.cont
kept_weight-roll d = rw fold-roll-StateVal (kept_weight_by d.state d.args d.cont)

-- two ways to say what a step leads to
carry : (a b : List Stmt) (q r : Running) (n : ℕ) → On a q ≡ On b r → work a q < n → work b r < n
carry a b q r n h lt =
    let same_list : a ≡ b = cc in
    let same_run : q ≡ r = cc in
    subst (λ x. work b x < n) same_run (subst (λ x. work x q < n) same_list lt)

assigned-state : (r : Running) (name : Name) (x : Value) (i j : Option ℕ) → (assigned_at r name x i j).here.state ≡ r.here.state
assigned-state r name x (Some i) j = refl
assigned-state r name x None (Some i) = refl
assigned-state r name x None None = refl

branch-le : (x : Value) (first : List Stmt) (second : Option (List Stmt)) →
    weight_of_all (branch x first second) ≤ weight_of_all first + weight_of_all (unwrap_or second [])
unfolding branch
branch-le (v.Bool true) first second = omega arith
branch-le (v.Bool false) first second = omega arith
branch-le (v.Int n) first second = omega arith
branch-le (v.Node n) first second = omega arith
branch-le (v.Set s) first second = omega arith

resumed_falls : (o : Option Cont) (rest rest' : List Stmt) (r r' : Running) → kept_weight r.here.state ≡ cont_weight o →
    resumes r o ≡ On rest' r' → work rest' r' < 1 + work rest r
unfolding resumes
resumed_falls (Some k) rest rest' r r' e h = carry _ _ _ _ _ h (omega (arith, e))
resumed_falls None rest rest' r r' e h = cc

suspended_ends : (b : Bool) (m n : Ended) (rest : List Stmt) (r : Running) → (if b then Over m else Over n) ≡ On rest r → ⊥
suspended_ends true m n rest r h = cc
suspended_ends false m n rest r h = cc

each-weight : (x : Name) (set : List Bool) (body : List Stmt) →
    weight (each x set body) ≡ length (nodes_in set) * (weight_of_all body + 1) + 1
each-weight x set body = weight-is (each x set body) ∙ ap layer_weight (out-roll-Do (Do-F.Each x set body))

begun_falls : (x : Name) (set : List Bool) (body rest rest' : List Stmt) (r r' : Running) →
    On (each x set body ∷ rest) r ≡ On rest' r' → work rest' r' < 8 * (weight_of_all body + 1) + 2 + work rest r
begun_falls x set body rest rest' r r' h =
    let all : weight_of_all (each x set body ∷ rest) ≡ weight (each x set body) + weight_of_all rest =
    sum_by-cons weight (each x set body) rest in
    let few : length (nodes_in set) * (weight_of_all body + 1) ≤ 8 * (weight_of_all body + 1) =
    mul-le-mul_right (weight_of_all body + 1) (nodes_few set) in
    carry _ _ _ _ _ h (omega (arith, all, few, each-weight x set body))

turned_falls : (p : Protocol) (x : Name) (set : List Bool) (o : Option ℕ) (body rest rest' : List Stmt) (r r' : Running) →
    least_of set ≡ o → turned p x set o body rest r ≡ On rest' r'
    → work rest' r' < length (nodes_in set) * (weight_of_all body + 1) + 1 + work rest r
unfolding assigned
turned_falls p x set None body rest rest' r r' e h = carry _ _ _ _ _ h (omega arith)
turned_falls p x set (Some n) body rest rest' r r' e h =
    let again = each x (without set n) body in
    let all : weight_of_all (body ++ again ∷ rest) ≡ weight_of_all body + weight_of_all (again ∷ rest) =
    sum_by-append weight body (again ∷ rest) in
    let more : weight_of_all (again ∷ rest) ≡ weight again + weight_of_all rest = sum_by-cons weight again rest in
    let fewer : length (nodes_in set) * (weight_of_all body + 1)
    ≡ length (nodes_in (without set n)) * (weight_of_all body + 1) + (weight_of_all body + 1) =
    one_more (length (nodes_in (without set n))) (length (nodes_in set)) (weight_of_all body + 1) (nodes_rest set n e) in
    carry _ _ _ _ _ h (rw assigned-state (omega (arith, all, more, fewer, each-weight x (without set n) body)))
  where
    one_more : (k n m : ℕ) → k + 1 ≡ n → n * m ≡ k * m + m
    one_more k n m e = ap (λ i. i * m) (sym e) ∙ grind arith

pub layer_falls : (p : Protocol) (l : Layer) (rest rest' : List Stmt) (r r' : Running) → led_to p l rest r ≡ On rest' r' →
    work rest' r' < layer_weight l + work rest r
unfolding assigned sent sent_all moved suspends tagged turns
layer_falls p (Do-F.Assign name e) rest rest' r r' h =
    carry _ _ _ _ _ h (rw assigned-state (omega arith))
layer_falls p (Do-F.If e first second) rest rest' r r' h =
    carry _ _ _ _ _ h
    (omega (
      arith,
      branch-le (value_of p r e) first second,
      sum_by-append weight (branch (value_of p r e) first second) rest,
    ))
layer_falls p (Do-F.Send to name args) rest rest' r r' h = carry _ _ _ _ _ h (omega arith)
layer_falls p (Do-F.SendAll to name args) rest rest' r r' h = carry _ _ _ _ _ h (omega arith)
layer_falls p (Do-F.ForEach x e body) rest rest' r r' h = begun_falls x (set_of (value_of p r e)) body rest rest' r r' h
layer_falls p (Do-F.Each x set body) rest rest' r r' h = turned_falls p x set (least_of set) body rest rest' r r' refl h
layer_falls p (Do-F.SetTag tag) rest rest' r r' h = carry _ _ _ _ _ h (omega arith)
layer_falls p (Do-F.SetState name args) rest rest' r r' h =
    carry _ _ _ _ _ h
    (omega (
      arith,
      kept_weight-is r.here.state,
      kept_weight-roll
          (record {
            state = declared (state_number p name);
            args = values_of p r args;
            cont = (out-StateVal r.here.state).cont;
          }),
    ))
layer_falls p (Do-F.Suspend label name args passed) rest rest' r r' h = absurd (suspended_ends _ _ _ _ _ h)
layer_falls p (Do-F.Resume name) rest rest' r r' h =
    resumed_falls (out-StateVal r.here.state).cont rest rest' r r' (kept_weight-is r.here.state) h
layer_falls p Do-F.Install rest rest' r r' h = carry _ _ _ _ _ h (omega arith)
layer_falls p Do-F.Enqueue rest rest' r r' h = carry _ _ _ _ _ h (omega arith)
layer_falls p Do-F.WakeUp rest rest' r r' h = carry _ _ _ _ _ h (omega arith)
layer_falls p (Do-F.Error name) rest rest' r r' h = cc

-- A step that leads on leaves less to do.
pub next_falls : (p : Protocol) (stmts rest : List Stmt) (r after : Running) → next_of p stmts r ≡ On rest after →
    work rest after < work stmts r
next_falls p [] rest r after h = cc
next_falls p (s ∷ others) rest r after h =
    omega (arith, weight-is s, sum_by-cons weight s others, layer_falls p (what_of s) others rest r after h)
