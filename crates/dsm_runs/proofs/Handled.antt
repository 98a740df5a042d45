-- What a handler leaves as it is: where its block is. And what it sends: no faults.
use Rattle.std.proofs.Common.{◌≡◌, ℕ, Bool, true, false, List, [], ◌∷◌, Option, Some, None, map, refl, subst}
use Rattle.std.specs.Prelude.{if◌then◌else◌, nat_le}
use Rattle.tw_base.specs.Lists.{Each}
use Rattle.tw_base.specs.declared.entry.End.{End}
use Rattle.tw_base.specs.declared.entry.End.TheVariants.{Fine, TooDeep}
use Rattle.tw_base.specs.declared.message.Message.{Message}
use Rattle.tw_base.specs.declared.name.Name.{Name}
use Rattle.tw_base.specs.declared.value.Data.{Data}
use Rattle.tw_base.specs.declared.value.Value.{Value}
use Rattle.teapot_tree.specs.declared.protocol.Protocol.{Protocol}
use Rattle.teapot_tree.specs.declared.stmt.Do.TheOpen.{Do-F}
use Rattle.teapot_tree.specs.declared.stmt.Stmt.{Stmt}
use Rattle.teapot_meaning.specs.Depth.{depth}
use Rattle.teapot_meaning.specs.Does.{Does}
use Rattle.teapot_meaning.specs.Goes.{Goes, ends, goes_on}
use Rattle.teapot_meaning.specs.Layers.{Layer, what_of}
use Rattle.teapot_meaning.specs.Names.{info_number}
use Rattle.teapot_meaning.specs.Steps.{assigned, assigned_at, ended, least_of, led_to, moved, next_of, out_to, place_of}
use Rattle.teapot_meaning.specs.Steps.{resumes, sent, sent_all, suspended, suspends, tagged, turned, turns}
use Rattle.teapot_meaning.specs.declared.state.Cont.{Cont}
use Rattle.teapot_meaning.specs.declared.state.Ended.{Ended}
use Rattle.teapot_meaning.specs.declared.state.Here.{Here}
use Rattle.teapot_meaning.specs.declared.state.Next.{Next}
use Rattle.teapot_meaning.specs.declared.state.Next.TheVariants.{On, Over}
use Rattle.teapot_meaning.specs.declared.state.Out.{Out}
use Rattle.teapot_meaning.specs.declared.state.Running.{Running}
use Rattle.teapot_meaning.specs.declared.state.StateVal.{out-StateVal}
use Rattle.dsm_runs.specs.Invariants.{is_fault}
use Rattle.dsm_runs.proofs.Lists.{Each-append}

abbrev pub IsNoFault : Out → Type 0
IsNoFault o = is_fault o.kind ≡ false

-- the block is where it was, and no fault was sent
pub record Leaves (node home_node number : ℕ) (here : Here) (outs : List Out) : Type 0 where
  pub me : here.me ≡ node
  pub home : here.home ≡ home_node
  pub block : here.block ≡ number
  pub sends : Each IsNoFault outs

module _ (p : Protocol) (me home block : ℕ) where
  abbrev LeavesAt : Running → Type 0
  LeavesAt r = Leaves me home block r.here r.sends

  abbrev Leads : Next → Type 0
  Leads (On rest r) = LeavesAt r
  Leads (Over e) = Leaves me home block e.here e.sends

  end_leaves : (r : Running) (end : End) → LeavesAt r → Leads (Over (ended r end))
  unfolding ended
  end_leaves r end h = record { me = h.me; home = h.home; block = h.block; sends = h.sends }

  assigned_leaves : (r : Running) (name : Name) (value : Value) (var info : Option ℕ) → LeavesAt r →
      LeavesAt (assigned_at r name value var info)
  assigned_leaves r name value (Some i) info h = record { me = h.me; home = h.home; block = h.block; sends = h.sends }
  assigned_leaves r name value None (Some i) h = record { me = h.me; home = h.home; block = h.block; sends = h.sends }
  assigned_leaves r name value None None h = h

  assign_leaves : (r : Running) (name : Name) (value : Value) → LeavesAt r → LeavesAt (assigned p r name value)
  unfolding assigned
  assign_leaves r name value h = assigned_leaves r name value (place_of name r.vars) (info_number p name) h

  outs_named : (number : ℕ) (args : List Value) (payload : Option Data) (nodes : List ℕ) →
      Each IsNoFault (map (out_to number args payload) nodes)
  outs_named number args payload [] = tt
  outs_named number args payload (n ∷ nodes) = (refl, outs_named number args payload nodes)

  send_leaves : (r : Running) (to : Value) (number : ℕ) (args : List Value) → LeavesAt r → LeavesAt (sent p r to number args)
  unfolding sent
  send_leaves r to number args h = record {
    me = h.me;
    home = h.home;
    block = h.block;
    sends = Each-append IsNoFault r.sends _ h.sends (refl, tt);
  }

  send_all_leaves : (r : Running) (to : Value) (number : ℕ) (args : List Value) → LeavesAt r →
      LeavesAt (sent_all p r to number args)
  unfolding sent_all
  send_all_leaves r to number args h = record {
    me = h.me;
    home = h.home;
    block = h.block;
    sends = Each-append IsNoFault r.sends _ h.sends (outs_named number args _ _);
  }

  turn_leaves : (x : Name) (set : List Bool) (o : Option ℕ) (body rest : List Stmt) (r : Running) → LeavesAt r →
      Leads (turned p x set o body rest r)
  turn_leaves x set None body rest r h = h
  turn_leaves x set (Some n) body rest r h = assign_leaves r x _ h

  suspend_leaves : (r : Running) (state : ℕ) (args : List Value) (rest : List Stmt) (b : Bool) → LeavesAt r →
      Leads (if b then Over (ended r TooDeep) else Over (ended (suspended r state args rest) Fine))
  suspend_leaves r state args rest true h = end_leaves r TooDeep h
  suspend_leaves r state args rest false h = end_leaves (suspended r state args rest) Fine
      (record { me = h.me; home = h.home; block = h.block; sends = h.sends })

  resume_leaves : (r : Running) (o : Option Cont) → LeavesAt r → Leads (resumes r o)
  unfolding resumes
  resume_leaves r None h = end_leaves r Fine h
  resume_leaves r (Some k) h = record { me = h.me; home = h.home; block = h.block; sends = h.sends }

  one_leaves : (l : Layer) (rest : List Stmt) (r : Running) → LeavesAt r → Leads (led_to p l rest r)
  unfolding tagged turns suspends moved
  one_leaves (Do-F.Assign n e) rest r h = assign_leaves r n _ h
  one_leaves (Do-F.If e xs ys) rest r h = h
  one_leaves (Do-F.Send to n args) rest r h = send_leaves r _ _ _ h
  one_leaves (Do-F.SendAll to n args) rest r h = send_all_leaves r _ _ _ h
  one_leaves (Do-F.SetTag tag) rest r h = record { me = h.me; home = h.home; block = h.block; sends = h.sends }
  one_leaves (Do-F.SetState n args) rest r h = record { me = h.me; home = h.home; block = h.block; sends = h.sends }
  one_leaves (Do-F.Suspend l n args q) rest r h = suspend_leaves r _ _ rest (nat_le 8 (depth r.here.state)) h
  one_leaves (Do-F.Resume n) rest r h = resume_leaves r (out-StateVal r.here.state).cont h
  one_leaves (Do-F.ForEach x e body) rest r h = h
  one_leaves (Do-F.Each x set body) rest r h = turn_leaves x set (least_of set) body rest r h
  one_leaves Do-F.Install rest r h = record { me = h.me; home = h.home; block = h.block; sends = h.sends }
  one_leaves Do-F.Enqueue rest r h = record { me = h.me; home = h.home; block = h.block; sends = h.sends }
  one_leaves Do-F.WakeUp rest r h = record { me = h.me; home = h.home; block = h.block; sends = h.sends }
  one_leaves (Do-F.Error n) rest r h = end_leaves r _ h

  next_leaves : (stmts : List Stmt) (r : Running) → LeavesAt r → Leads (next_of p stmts r)
  next_leaves [] r h = end_leaves r Fine h
  next_leaves (s ∷ rest) r h = one_leaves (what_of s) rest r h

  goes_leaves : {stmts : List Stmt} {r : Running} {e : Ended} → Goes p stmts r e → LeavesAt r →
      Leaves me home block e.here e.sends
  goes_leaves {stmts = stmts} {r = r} (ends {e = e} is) h = subst Leads is (next_leaves stmts r h)
  goes_leaves {stmts = stmts} {r = r} (goes_on is more) h = goes_leaves more (subst Leads is (next_leaves stmts r h))

pub does_leave : (p : Protocol) (here : Here) (m : Message) (e : Ended) → Does p here m e →
    Leaves here.me here.home here.block e.here e.sends
does_leave p here m e d = goes_leaves p here.me here.home here.block d.goes
    (record { me = refl; home = refl; block = refl; sends = tt })
