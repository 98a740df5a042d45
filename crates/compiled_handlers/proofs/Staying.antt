-- A handler stays at its block of its node.
use Rattle.std.proofs.Common.{◌≡◌, ◌∙◌, ℕ, Bool, true, false, List, [], ◌∷◌, Option, Some, None, refl, ap, subst}
use Rattle.std.specs.Prelude.{if◌then◌else◌, nat_le}
use Rattle.tw_base.specs.declared.entry.End.TheVariants.{Fine, TooDeep}
use Rattle.tw_base.specs.declared.message.Message.{Message}
use Rattle.tw_base.specs.declared.name.Name.{Name}
use Rattle.tw_base.specs.declared.value.Value.{Value}
use Rattle.tw_base.specs.declared.value.Value.TheVariants as v
use Rattle.teapot_tree.specs.declared.protocol.Protocol.{Protocol}
use Rattle.teapot_tree.specs.declared.stmt.Do.TheOpen.{Do-F}
use Rattle.teapot_tree.specs.declared.stmt.Stmt.{Stmt}
use Rattle.teapot_meaning.specs.Depth.{depth}
use Rattle.teapot_meaning.specs.Does.{Does}
use Rattle.teapot_meaning.specs.Goes.{Goes, ends, goes_on}
use Rattle.teapot_meaning.specs.Layers.{Layer, what_of}
use Rattle.teapot_meaning.specs.Names.{info_number}
use Rattle.teapot_meaning.specs.Steps.{assigned, assigned_at, assigned_info, ended, least_of, led_to, moved, next_of, place_of}
use Rattle.teapot_meaning.specs.Steps.{resumes, sent, sent_all, suspended, suspends, tagged, turned, turns}
use Rattle.teapot_meaning.specs.Values.{value_of}
use Rattle.teapot_meaning.specs.declared.state.Cont.{Cont}
use Rattle.teapot_meaning.specs.declared.state.Ended.{Ended}
use Rattle.teapot_meaning.specs.declared.state.Here.{Here}
use Rattle.teapot_meaning.specs.declared.state.Next.{Next}
use Rattle.teapot_meaning.specs.declared.state.Next.TheVariants.{On, Over}
use Rattle.teapot_meaning.specs.declared.state.Running.{Running}
use Rattle.teapot_meaning.specs.declared.state.StateVal.{out-StateVal}
use Rattle.compiled_handlers.specs.Standing.{IsBlockOf}

-- the node, its block's home, and the block
abbrev place : Here → ℕ × ℕ × ℕ
place here = (here.me, here.home, here.block)

abbrev IsAt : ℕ × ℕ × ℕ → Next → Type 0
IsAt at (On rest r) = place r.here ≡ at
IsAt at (Over e) = place e.here ≡ at

info_stays : (r : Running) (x : Value) (o : Option ℕ) → place (assigned_info r x o).here ≡ place r.here
info_stays r x (Some i) = refl
info_stays r x None = refl

variable_stays : (r : Running) (name : Name) (x : Value) (o info : Option ℕ) →
    place (assigned_at r name x o info).here ≡ place r.here
variable_stays r name x (Some i) info = refl
variable_stays r name x None info = info_stays r x info

assigned_stays : (p : Protocol) (r : Running) (name : Name) (x : Value) → place (assigned p r name x).here ≡ place r.here
unfolding assigned
assigned_stays p r name x = variable_stays r name x (place_of name r.vars) (info_number p name)

turned_stays : (p : Protocol) (x : Name) (set : List Bool) (o : Option ℕ) (body rest : List Stmt) (r : Running) →
    IsAt (place r.here) (turned p x set o body rest r)
turned_stays p x set None body rest r = refl
turned_stays p x set (Some n) body rest r = assigned_stays p r x (v.Node n)

chosen_stays : (b : Bool) (at : ℕ × ℕ × ℕ) (d e : Ended) → place d.here ≡ at → place e.here ≡ at →
    IsAt at (if b then Over d else Over e)
chosen_stays true at d e f g = f
chosen_stays false at d e f g = g

suspends_stays : (r : Running) (state : ℕ) (args : List Value) (rest : List Stmt) →
    IsAt (place r.here) (suspends r state args rest)
unfolding suspends ended
suspends_stays r state args rest =
    chosen_stays (nat_le 8 (depth r.here.state)) (place r.here) (ended r TooDeep)
    (ended (suspended r state args rest) Fine) refl refl

resumes_stays : (r : Running) (o : Option Cont) → IsAt (place r.here) (resumes r o)
unfolding resumes ended
resumes_stays r (Some k) = refl
resumes_stays r None = refl

step_stays : (p : Protocol) (s : Layer) (rest : List Stmt) (r : Running) → IsAt (place r.here) (led_to p s rest r)
unfolding ended tagged sent sent_all moved turns
step_stays p (Do-F.Assign name e) rest r = assigned_stays p r name (value_of p r e)
step_stays p (Do-F.If e first second) rest r = refl
step_stays p (Do-F.Send to name args) rest r = refl
step_stays p (Do-F.SendAll to name args) rest r = refl
step_stays p (Do-F.SetTag tag) rest r = refl
step_stays p (Do-F.SetState name args) rest r = refl
step_stays p (Do-F.Suspend label name args passed) rest r = suspends_stays r _ _ rest
step_stays p (Do-F.Resume name) rest r = resumes_stays r (out-StateVal r.here.state).cont
step_stays p (Do-F.ForEach x e body) rest r = refl
step_stays p (Do-F.Each x set body) rest r = turned_stays p x set (least_of set) body rest r
step_stays p Do-F.Install rest r = refl
step_stays p Do-F.Enqueue rest r = refl
step_stays p Do-F.WakeUp rest r = refl
step_stays p (Do-F.Error name) rest r = refl

next_stays : (p : Protocol) (stmts : List Stmt) (r : Running) → IsAt (place r.here) (next_of p stmts r)
unfolding ended
next_stays p [] r = refl
next_stays p (s ∷ rest) r = step_stays p (what_of s) rest r

end_stays : {p : Protocol} {stmts : List Stmt} {r : Running} {e : Ended} → Goes p stmts r e → place e.here ≡ place r.here
end_stays {p} {stmts} {r} (ends h) = subst (IsAt (place r.here)) h (next_stays p stmts r)
end_stays {p} {stmts} {r} (goes_on h more) = end_stays more ∙ subst (IsAt (place r.here)) h (next_stays p stmts r)

pub still_at : (p : Protocol) (me home block : ℕ) (here : Here) (m : Message) (e : Ended) → IsBlockOf me home block here →
    Does p here m e → IsBlockOf me home block e.here
still_at p me home block here m e is d =
    let same = end_stays d.goes in
    record {
      same_me = ap (λ at. at.0) same ∙ is.same_me;
      same_home = ap (λ at. at.1) same ∙ is.same_home;
      same_block = ap (λ at. at.2) same ∙ is.same_block;
    }
