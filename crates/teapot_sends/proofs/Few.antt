-- A handler sends few messages.
use Rattle.std.proofs.Common.{◌≡◌, ℕ, ◌+◌, length, map, ◌≤◌, ◌<◌, List, [], ◌∷◌, Option, Some, None, Bool, true, false, refl}
use Rattle.std.proofs.Common.{subst, arith, inl, inr, length-append}
use Rattle.std.specs.Prelude.{if◌then◌else◌, nat_le, Contains}
use Rattle.std.proofs.lemmas.Bool.{cases_lt}
use Rattle.tw_base.specs.declared.message.Message.{Message}
use Rattle.tw_base.specs.declared.name.Name.{Name}
use Rattle.tw_base.specs.declared.value.Value.{Value}
use Rattle.teapot_tree.specs.declared.protocol.Handler.{Handler}
use Rattle.teapot_tree.specs.declared.protocol.Protocol.{Protocol}
use Rattle.teapot_tree.specs.declared.protocol.State.{State}
use Rattle.teapot_tree.specs.declared.rule.Rule.TheVariants.{TooManySends}
use Rattle.teapot_tree.specs.declared.stmt.Do.TheOpen.{Do-F}
use Rattle.teapot_tree.specs.declared.stmt.Stmt.{Stmt}
use Rattle.teapot_tree.specs.Bodies.{body_of}
use Rattle.teapot_tree.specs.Parts.{eaches}
use Rattle.teapot_tree.specs.Paths.{Sends}
use Rattle.teapot_tree.specs.Rules.{IsAccepted, body_in}
use Rattle.teapot_tree.specs.Scopes.{Scope}
use Rattle.teapot_meaning.specs.Depth.{depth}
use Rattle.teapot_meaning.specs.Does.{Does}
use Rattle.teapot_meaning.specs.Fits.{Fits, IsMessageOf}
use Rattle.teapot_meaning.specs.Goes.{Goes, ends, goes_on}
use Rattle.teapot_meaning.specs.Layers.{Layer, what_of}
use Rattle.teapot_meaning.specs.Steps.{led_to, assigned, assigned_at, ended, least_of, moved, next_of, resumes, sent, sent_all}
use Rattle.teapot_meaning.specs.Steps.{set_of, suspends, tagged, turned, turns}
use Rattle.teapot_meaning.specs.Values.{value_of}
use Rattle.teapot_meaning.specs.declared.state.Cont.{Cont}
use Rattle.teapot_meaning.specs.declared.state.Ended.{Ended}
use Rattle.teapot_meaning.specs.declared.state.Here.{Here}
use Rattle.teapot_meaning.specs.declared.state.Next.{Next}
use Rattle.teapot_meaning.specs.declared.state.Next.TheVariants.{On, Over}
use Rattle.teapot_meaning.specs.declared.state.Running.{Running}
use Rattle.teapot_meaning.specs.declared.state.StateVal.{out-StateVal}
use Rattle.teapot_meaning.proofs.Found.{each_at, each_flat, slice_has}
use Rattle.teapot_meaning.proofs.Members.{nodes_few}
use Rattle.teapot_meaning.proofs.Sound.{in_handler}
use Rattle.teapot_meaning.proofs.Starting.{taker}
use Rattle.teapot_rules.specs.Walks.{most}
use Rattle.teapot_rules.proofs.Counts.{most-is}
use Rattle.teapot_sends.specs.Prices.{by_messages}
use Rattle.teapot_sends.proofs.Bodies.{ahead-le, text-most}
use Rattle.teapot_sends.proofs.Kept.{HandlersCost, owed-le}
use Rattle.teapot_sends.proofs.Steps.{Pays, due, price, step_pays}

-- ---- what a step sends

-- so many were sent at most
abbrev SentWithin : ℕ → Next → Type 0
SentWithin n (On rest r) = length r.sends ≤ n
SentWithin n (Over e) = length e.sends ≤ n

assigned-sends : (r : Running) (name : Name) (x : Value) (i j : Option ℕ) → (assigned_at r name x i j).sends ≡ r.sends
assigned-sends r name x (Some i) j = refl
assigned-sends r name x None (Some i) = refl
assigned-sends r name x None None = refl

length_map : {X Y : Type 0} (f : X → Y) (xs : List X) → length (map f xs) ≡ length xs
length_map f [] = refl
length_map f (x ∷ xs) = omega (arith, length_map f xs)

suspended_sends : (n : ℕ) (b : Bool) (d e : Ended) → length d.sends ≤ n → length e.sends ≤ n →
    SentWithin n (if b then Over d else Over e)
suspended_sends n true d e i j = i
suspended_sends n false d e i j = j

resumed_sends : (n : ℕ) (r : Running) (o : Option Cont) → length r.sends ≤ n → SentWithin n (resumes r o)
unfolding resumes ended
resumed_sends n r (Some k) le = le
resumed_sends n r None le = le

turned_sends : (p : Protocol) (x : Name) (set : List Bool) (o : Option ℕ) (body rest : List Stmt) (r : Running) →
    SentWithin (length r.sends + 0) (turned p x set o body rest r)
unfolding assigned
turned_sends p x set None body rest r = omega arith
turned_sends p x set (Some n) body rest r = rw assigned-sends (omega arith)

layer_sends : (p : Protocol) (l : Layer) (rest : List Stmt) (r : Running) →
    SentWithin (length r.sends + price by_messages l) (led_to p l rest r)
unfolding assigned sent sent_all moved suspends tagged turns ended
layer_sends p (Do-F.Assign name e) rest r = rw assigned-sends (omega arith)
layer_sends p (Do-F.If e first None) rest r = omega arith
layer_sends p (Do-F.If e first (Some second)) rest r = omega arith
layer_sends p (Do-F.Send to name args) rest r = rw length-append (omega arith)
layer_sends p (Do-F.SendAll to name args) rest r = rw (length-append, length_map)
    (omega (arith, nodes_few (set_of (value_of p r to))))
layer_sends p (Do-F.SetTag tag) rest r = omega arith
layer_sends p (Do-F.SetState name args) rest r = omega arith
layer_sends p (Do-F.Suspend label name args passed) rest r =
    suspended_sends _ (nat_le 8 (depth r.here.state)) _ _ (omega arith) (omega arith)
layer_sends p (Do-F.Resume name) rest r = resumed_sends _ r (out-StateVal r.here.state).cont (omega arith)
layer_sends p (Do-F.ForEach x e body) rest r = omega arith
layer_sends p (Do-F.Each x set body) rest r = turned_sends p x set (least_of set) body rest r
layer_sends p Do-F.Install rest r = omega arith
layer_sends p Do-F.Enqueue rest r = omega arith
layer_sends p Do-F.WakeUp rest r = omega arith
layer_sends p (Do-F.Error name) rest r = omega arith

-- ---- what is sent in all

-- sent, and still to be sent
abbrev Within : ℕ → Next → Type 0
Within n (On rest r) = length r.sends + due by_messages rest r ≤ n
Within n (Over e) = length e.sends ≤ n

both_within : (n paid was : ℕ) (next : Next) → Pays by_messages n paid next → SentWithin (was + paid) next → Within (was + n) next
both_within n paid was (On rest r) pays sent = omega arith
both_within n paid was (Over e) pays sent = omega arith

next_within : (p : Protocol) (stmts : List Stmt) (r : Running) →
    Within (length r.sends + due by_messages stmts r) (next_of p stmts r)
unfolding ended
next_within p [] r = omega arith
next_within p (s ∷ rest) r =
    both_within _ (price by_messages (what_of s)) (length r.sends) (next_of p (s ∷ rest) r) (step_pays by_messages p s rest r)
    (layer_sends p (what_of s) rest r)

goes_within : (p : Protocol) {stmts : List Stmt} {r : Running} {e : Ended} → Goes p stmts r e →
    length e.sends ≤ length r.sends + due by_messages stmts r
goes_within p (ends {stmts = stmts} {r = r} h) = subst (Within (length r.sends + due by_messages stmts r)) h
    (next_within p stmts r)
goes_within p (goes_on {stmts = stmts} {r = r} h more) =
    let step = subst (Within (length r.sends + due by_messages stmts r)) h (next_within p stmts r) in
    let rest = goes_within p more in
    omega arith

-- ---- the rule

abbrev SendsMany : Scope → Type 0
SendsMany c = (n : ℕ) × Sends (body_in c) n × (32 < n)

handlers_cost : (p : Protocol) → IsAccepted p → HandlersCost by_messages p 32
handlers_cost p a t h i j =
    let none : eaches (body_of h.body) ≡ 0 = each_at (λ (k : Handler). eaches (body_of k.body) ≡ 0) t.handlers h j
    (each_flat (λ (k : Handler). eaches (body_of k.body) ≡ 0) (λ (d : State). d.handlers) p.states t i a.tree.no_each) in
    let same = text-most (body_of h.body) none in
    elim (cases_lt 32 (most (body_of h.body))) [
      | inl lt ↦ absurd
          (a.keeps h.line TooManySends (in_handler p t h (λ c. (c.handler.line ≡ h.line) × SendsMany c) i j
          (refl, (most-is (body_of h.body)).0 lt)))
      | inr ge ↦ omega arith
    ]

pub sends_few : (p : Protocol) (here : Here) (m : Message) (e : Ended) → IsAccepted p → Fits p here →
    IsMessageOf p (length here.words) m → Does p here m e → length e.sends ≤ 288
sends_few p here m e a fits is d =
    let cost = handlers_cost p a in
    let i : Contains p.states d.state = slice_has p.states (out-StateVal here.state).state d.state d.is_state in
    let j = (taker p m.kind d.state d.handler d.is_handler).0 in
    let body = cost d.state d.handler i j in
    let first = ahead-le by_messages (body_of d.handler.body) in
    let kept = owed-le by_messages p 32 (length here.words) 9 here.state cost fits.state in
    let all = goes_within p d.goes in
    omega arith
