-- What each statement leaves.
use Rattle.std.proofs.Common.{◌≡◌, ℕ, Bool, true, false, List, [], ◌∷◌, ◌++◌, Option, Some, None, map, refl, subst}
use Rattle.std.specs.Prelude.{if◌then◌else◌, nat_le, slice_get}
use Rattle.tw_base.specs.Lists.{Each}
use Rattle.tw_base.specs.declared.entry.End.{End}
use Rattle.tw_base.specs.declared.entry.End.TheVariants.{Fine, TooDeep}
use Rattle.tw_base.specs.declared.name.Name.{Name}
use Rattle.tw_base.specs.declared.value.Data.{Data}
use Rattle.tw_base.specs.declared.value.Value.{Value}
use Rattle.teapot_tree.specs.declared.protocol.MessageDecl.{MessageDecl}
use Rattle.teapot_tree.specs.declared.protocol.Protocol.{Protocol}
use Rattle.teapot_tree.specs.declared.stmt.Do.TheOpen.{Do-F}
use Rattle.teapot_tree.specs.declared.stmt.Stmt.{Stmt}
use Rattle.teapot_tree.specs.Rules.{carries}
use Rattle.teapot_meaning.specs.Depth.{depth}
use Rattle.teapot_meaning.specs.Goes.{Goes, ends, goes_on}
use Rattle.teapot_meaning.specs.Layers.{Layer, what_of}
use Rattle.teapot_meaning.specs.Names.{info_number}
use Rattle.teapot_meaning.specs.Steps.{assigned, assigned_at, ended, least_of, led_to, moved, next_of, out_to, payload_of}
use Rattle.teapot_meaning.specs.Steps.{place_of, resumes, sent, sent_all, suspended, suspends, tagged, turned, turns}
use Rattle.teapot_meaning.specs.declared.state.Cont.{Cont}
use Rattle.teapot_meaning.specs.declared.state.Ended.{Ended}
use Rattle.teapot_meaning.specs.declared.state.Kept.{Kept}
use Rattle.teapot_meaning.specs.declared.state.Kept.TheVariants.{No, Stale, Eligible}
use Rattle.teapot_meaning.specs.declared.state.Next.{Next}
use Rattle.teapot_meaning.specs.declared.state.Next.TheVariants.{On, Over}
use Rattle.teapot_meaning.specs.declared.state.Out.{Out}
use Rattle.teapot_meaning.specs.declared.state.Running.{Running}
use Rattle.teapot_meaning.specs.declared.state.StateVal.{out-StateVal}
use Rattle.message_facts.specs.Facts.{EligibleMessagesAreFreed, IsBare, SendsAreBare}

module _ (p : Protocol) where
  -- an eligible message was freed, and what was sent is bare
  record Left (kept : Kept) (freed : Bool) (sends : List Out) : Type 0 where
    freed_if : kept ≡ Eligible → freed ≡ true
    bare : Each (IsBare p) sends

  abbrev LeftAt : Running → Type 0
  LeftAt r = Left r.kept r.freed r.sends

  abbrev Leads : Next → Type 0
  Leads (On rest r) = LeftAt r
  Leads (Over e) = Left e.kept e.freed e.sends

  append_bare : (xs ys : List Out) → Each (IsBare p) xs → Each (IsBare p) ys → Each (IsBare p) (xs ++ ys)
  append_bare [] ys h k = k
  append_bare (x ∷ xs) ys h k = (h.0, append_bare xs ys h.1 k)

  payload_none : (d : Option MessageDecl) (words : Data) → carries d ≡ false → payload_of d words ≡ None
  unfolding payload_of
  payload_none (Some d) words e = by_test d.carries e
    where
      by_test : (b : Bool) → b ≡ false → (if b then Some words else None) ≡ None
      by_test true h = cc
      by_test false h = refl
  payload_none None words e = refl

  outs_bare : (number : ℕ) (args : List Value) (words : Data) (nodes : List ℕ) →
      Each (IsBare p) (map (out_to number args (payload_of (slice_get p.messages number) words)) nodes)
  outs_bare number args words [] = tt
  outs_bare number args words (n ∷ nodes) =
      (λ e. payload_none (slice_get p.messages number) words e, outs_bare number args words nodes)

  end_left : (r : Running) (end : End) → LeftAt r → Leads (Over (ended r end))
  unfolding ended
  end_left r end h = h

  assigned_left : (r : Running) (name : Name) (value : Value) (var info : Option ℕ) → LeftAt r →
      LeftAt (assigned_at r name value var info)
  assigned_left r name value (Some i) info h = h
  assigned_left r name value None (Some i) h = h
  assigned_left r name value None None h = h

  assign_left : (r : Running) (name : Name) (value : Value) → LeftAt r → LeftAt (assigned p r name value)
  unfolding assigned
  assign_left r name value h = assigned_left r name value (place_of name r.vars) (info_number p name) h

  send_left : (r : Running) (to : Value) (number : ℕ) (args : List Value) → LeftAt r → LeftAt (sent p r to number args)
  unfolding sent
  send_left r to number args h = record {
    freed_if = h.freed_if;
    bare = append_bare r.sends _ h.bare (λ e. payload_none (slice_get p.messages number) r.here.words e, tt);
  }

  send_all_left : (r : Running) (to : Value) (number : ℕ) (args : List Value) → LeftAt r → LeftAt (sent_all p r to number args)
  unfolding sent_all
  send_all_left r to number args h =
      record { freed_if = h.freed_if; bare = append_bare r.sends _ h.bare (outs_bare number args r.here.words _) }

  turn_left : (x : Name) (set : List Bool) (o : Option ℕ) (body rest : List Stmt) (r : Running) → LeftAt r →
      Leads (turned p x set o body rest r)
  turn_left x set None body rest r h = h
  turn_left x set (Some n) body rest r h = assign_left r x _ h

  suspend_left : (r : Running) (state : ℕ) (args : List Value) (rest : List Stmt) (b : Bool) → LeftAt r →
      Leads (if b then Over (ended r TooDeep) else Over (ended (suspended r state args rest) Fine))
  suspend_left r state args rest true h = end_left r TooDeep h
  suspend_left r state args rest false h = end_left (suspended r state args rest) Fine h

  resume_left : (r : Running) (o : Option Cont) → LeftAt r → Leads (resumes r o)
  unfolding resumes
  resume_left r None h = end_left r Fine h
  resume_left r (Some k) h = record { freed_if = λ e. refl; bare = h.bare }

  never : (k : Kept) (b : Bool) → k ≡ Stale → k ≡ Eligible → b ≡ true
  never k b e f = cc

  one_left : (l : Layer) (rest : List Stmt) (r : Running) → LeftAt r → Leads (led_to p l rest r)
  unfolding tagged turns suspends moved
  one_left (Do-F.Assign n e) rest r h = assign_left r n _ h
  one_left (Do-F.If e xs ys) rest r h = h
  one_left (Do-F.Send to n args) rest r h = send_left r _ _ _ h
  one_left (Do-F.SendAll to n args) rest r h = send_all_left r _ _ _ h
  one_left (Do-F.SetTag tag) rest r h = h
  one_left (Do-F.SetState n args) rest r h = record { freed_if = λ e. refl; bare = h.bare }
  one_left (Do-F.Suspend l n args q) rest r h = suspend_left r _ _ rest (nat_le 8 (depth r.here.state)) h
  one_left (Do-F.Resume n) rest r h = resume_left r (out-StateVal r.here.state).cont h
  one_left (Do-F.ForEach x e body) rest r h = h
  one_left (Do-F.Each x set body) rest r h = turn_left x set (least_of set) body rest r h
  one_left Do-F.Install rest r h = h
  one_left Do-F.Enqueue rest r h = record { freed_if = λ e. never Stale r.freed refl e; bare = h.bare }
  one_left Do-F.WakeUp rest r h = h
  one_left (Do-F.Error n) rest r h = end_left r _ h

  next_left : (stmts : List Stmt) (r : Running) → LeftAt r → Leads (next_of p stmts r)
  next_left [] r h = end_left r Fine h
  next_left (s ∷ rest) r h = one_left (what_of s) rest r h

  goes_left : {stmts : List Stmt} {r : Running} {e : Ended} → Goes p stmts r e → LeftAt r → Left e.kept e.freed e.sends
  goes_left {stmts = stmts} {r = r} (ends {e = e} is) h = subst Leads is (next_left stmts r h)
  goes_left {stmts = stmts} {r = r} (goes_on is more) h = goes_left more (subst Leads is (next_left stmts r h))

  first : (freed : Bool) → Left No freed []
  first freed = record { freed_if = λ e. cc; bare = tt }

pub eligible_messages_are_freed : EligibleMessagesAreFreed
eligible_messages_are_freed p here m e does eligible = (goes_left p does.goes (first p false)).freed_if eligible

pub sends_are_bare : SendsAreBare
sends_are_bare p here m e does = (goes_left p does.goes (first p false)).bare
