-- After a fault the node's next instruction event completes the same access.
use Rattle.std.proofs.Common.{◌≡◌, ℕ, ◌<◌, Bool, true, false, List, [], ◌∷◌, Option, refl, sym, ap, subst, ◌∙◌, inl, inr}
use Rattle.std.proofs.Common.{nat_eq, if◌then◌else◌}
use Rattle.std.proofs.lemmas.Bool.{cases_eq}
use Rattle.tw_base.specs.declared.entry.Act.{Act}
use Rattle.tw_base.specs.declared.entry.Entry.{Entry}
use Rattle.tw_base.specs.declared.message.Message.{Message}
use Rattle.tw_base.specs.declared.value.Tag.{Tag}
use Rattle.block_tags.specs.Copies.{permits}
use Rattle.mini_asm.specs.Run.{Machine}
use Rattle.mini_asm.specs.declared.cpu.Cpu.{Cpu}
use Rattle.mini_asm.specs.declared.cpu.Next.{Next as Needs}
use Rattle.dsm_runs.proofs.Asking.{asked_well}
use Rattle.dsm_runs.specs.Events.{Acts, Faults as Faulting, IsRefused, mode_after}
use Rattle.dsm_runs.specs.Locals.{IsReady, Local}
use Rattle.dsm_runs.specs.Setups.{IsSetup, Setup, asked}
use Rattle.dsm_runs.specs.Worlds.{Runs, Step, World}
use Rattle.dsm_runs.specs.declared.mode.Mode.{Mode}
use Rattle.block_spots.specs.Sketches.{needs}
use Rattle.block_spots.specs.Views.{layout, seen_may, seen_next}
use Rattle.coherence_frame.specs.Coherent.{AtNode}
use Rattle.coherence_frame.specs.Ends.{FaultsAreFollowed, IsDoneAccess, NoInstruction}
use Rattle.coherence_frame.specs.Laws.{IsKept}
use Rattle.coherence_frame.specs.Parts.{Fourth, seen}
use Rattle.coherence_frame.specs.Potential.{is_handler_event}
use Rattle.coherence_frame.proofs.Simulating.{is_may}
use Rattle.coherence_frame.proofs.Keeping.{events_keep}
use Rattle.coherence_frame.proofs.StepsSeen.{refused_block}
use Rattle.coherence_frame.proofs.Scheme.{Scheme}
use Rattle.tw_base.specs.declared.entry.Act.TheVariants as act
use Rattle.mini_asm.specs.declared.cpu.Next.TheVariants as next
use Rattle.dsm_runs.specs.declared.mode.Mode.TheVariants as mode

-- ---- while the node waits

abbrev IsWaitingMode : Mode → Type 0
IsWaitingMode (mode.Blocked b) = Unit {0}
IsWaitingMode mode.Woken = Unit {0}
IsWaitingMode _ = ⊥

record IsPending (l : Local) (cpu : Cpu) : Type 0 where
  same : l.cpu ≡ cpu
  waits : IsWaitingMode l.mode

waits_on : (w : Bool) (c : ℕ) (m : Mode) → IsWaitingMode m → IsWaitingMode (mode_after w c m)
waits_on true c (mode.Blocked b) h = go (nat_eq c b)
  where
    go : (t : Bool) → IsWaitingMode (if t then mode.Woken else mode.Blocked b)
    go true = tt
    go false = tt
waits_on true c mode.Woken h = tt
waits_on true c mode.Running h = absurd h
waits_on true c mode.Halted h = absurd h
waits_on true c (mode.Trapped why) h = absurd h
waits_on false c m h = h

handler_waits : (s : Setup) (i : ℕ) (l : Local) (front : Option Message) (x : Local) (e : Entry) (sends : List Message)
    (cpu : Cpu) (a : Act) → is_handler_event a ≡ 1 → IsPending l cpu → Acts s i l front x e sends a → IsPending x cpu
handler_waits s i l front x e sends cpu (act.Redelivered kind block from) h p r =
    record {
      same = r.handles.cpu ∙ p.same;
      waits = subst IsWaitingMode (sym r.handles.mode)
          (waits_on r.handles.ended.woke r.message.block l.mode p.waits);
    }
handler_waits s i l front x e sends cpu (act.Delivered kind block from chan number) h p r =
    record {
      same = r.handles.cpu ∙ p.same;
      waits = subst IsWaitingMode (sym r.handles.mode)
          (waits_on r.handles.ended.woke r.message.block l.mode p.waits);
    }
handler_waits s i l front x e sends cpu (act.Load address value) h p r = absurd cc
handler_waits s i l front x e sends cpu (act.Store address value) h p r = absurd cc
handler_waits s i l front x e sends cpu (act.Faa address value sum) h p r = absurd cc
handler_waits s i l front x e sends cpu (act.Print value) h p r = absurd cc
handler_waits s i l front x e sends cpu act.Halt h p r = absurd cc
handler_waits s i l front x e sends cpu (act.Trapped why) h p r = absurd cc
handler_waits s i l front x e sends cpu act.Step h p r = absurd cc
handler_waits s i l front x e sends cpu (act.Fault store block) h p r = absurd cc

step_waits : (s : Setup) (g : World) (e : Entry) (h : World) (i : ℕ) (cpu : Cpu) → Step s g e h →
    (e.node ≡ i → is_handler_event e.act ≡ 1) → IsPending (g.locals i) cpu → IsPending (h.locals i) cpu
step_waits s g e h i cpu r only p = elim (cases_eq i e.node) [
  | inl q ↦ subst (λ (k : ℕ). IsPending (h.locals k) cpu) (sym q)
      (handler_waits s e.node (g.locals e.node) r.front (h.locals e.node) e r.sends cpu e.act (only (sym q))
      (subst (λ (k : ℕ). IsPending (g.locals k) cpu) q p) r.local.acts)
  | inr d ↦ subst (λ (l : Local). IsPending l cpu) (sym (r.others i d)) p
]

-- ---- the instruction event

pub refused_needs : (s : Setup) (n : Needs) (store : Bool) (b : ℕ) (tag : Tag) → IsRefused s n store b tag →
    (seen_next s n ≡ needs store b) × (permits tag store ≡ false)
refused_needs s (next.Access stores address value) store b tag h = rw (h.0, h.1) (refl, h.2)
refused_needs s (next.Faa address added) store b tag h = rw (h.0, h.1) (refl, h.2)
refused_needs s (next.Trap why) store b tag h = absurd h
refused_needs s next.Halt store b tag h = absurd h
refused_needs s (next.Print value) store b tag h = absurd h
refused_needs s next.Step store b tag h = absurd h

ready_waits : (m : Mode) → IsWaitingMode m → IsReady m → m ≡ mode.Woken
ready_waits mode.Woken w r = refl
ready_waits (mode.Blocked b) w r = absurd r
ready_waits mode.Running w r = absurd w
ready_waits mode.Halted w r = absurd w
ready_waits (mode.Trapped why) w r = absurd w

module _ (scheme : Scheme) where
  record Waits (s : Setup) (g : World) (i : ℕ) (cpu : Cpu) : Type 0 where
    machine : Machine
    kept : IsKept scheme.wording s g machine
    pending : IsPending (g.locals i) cpu

  -- a woken node is not refused
  no_more : (s : Setup) (g : World) (m : Machine) (i : ℕ) (cpu : Cpu) (front : Option Message) (x : Local) (e : Entry)
      (sends : List Message) (store : Bool) (b : ℕ) → IsSetup s → IsKept scheme.wording s g m → i < s.shape.nodes →
      IsPending (g.locals i) cpu
      → Faulting s i (g.locals i) front x e sends store b → ⊥
  no_more s g m i cpu front x e sends store b is k l p r =
      let lb : b < s.shape.blocks = refused_block s (asked s i (g.locals i).cpu) store b _ is
      (asked_well s i (g.locals i).cpu (asked s i (g.locals i).cpu) refl) r.refused in
      let at : AtNode scheme.wording.standing (layout s) ((seen scheme.wording s g).locals i) i b =
      (k.coherent b lb Fourth).1 i l in
      let woken : (g.locals i).mode ≡ mode.Woken = ready_waits (g.locals i).mode p.waits r.instructs.may.ready in
      let may : seen_may s (g.locals i) ≡ true = is_may s (g.locals i) r.instructs.may in
      let asks = refused_needs s (asked s i (g.locals i).cpu) store b ((g.locals i).blocks b).tag r.refused in
      go store asks.0 asks.1 at woken may
    where
      go : (t : Bool) → seen_next s (asked s i (g.locals i).cpu) ≡ needs t b → permits ((g.locals i).blocks b).tag t ≡ false →
          AtNode scheme.wording.standing (layout s) ((seen scheme.wording s g).locals i) i b → (g.locals i).mode ≡ mode.Woken →
          seen_may s (g.locals i) ≡ true → ⊥
      go true n f at w y = let z : permits ((g.locals i).blocks b).tag true ≡ true = at.woken_stores w y n in cc
      go false n f at w y = let z : permits ((g.locals i).blocks b).tag false ≡ true = at.woken_loads w y n in cc

  -- what the node could not do is what it does
  module _ (s : Setup) (is : IsSetup s) (g : World) (m : Machine) (k : IsKept scheme.wording s g m) (i : ℕ)
      (l : i < s.shape.nodes) (cpu : Cpu) (p : IsPending (g.locals i) cpu) (store : Bool) (b : ℕ) (tag : Tag)
      (was : IsRefused s (asked s i cpu) store b tag)
      (front : Option Message) (x : Local) (e : Entry) (sends : List Message) where
    now : (n : Needs) → asked s i (g.locals i).cpu ≡ n → IsRefused s n store b tag
    now n q = subst (λ (y : Needs). IsRefused s y store b tag) (ap (asked s i) (sym p.same) ∙ q) was

    done_as : (a : Act) → is_handler_event a ≡ 0 → Acts s i (g.locals i) front x e sends a → IsDoneAccess s store b a
    done_as (act.Load address value) h r = let n = now _ r.0.needed in (n.0, n.1)
    done_as (act.Store address value) h r = let n = now _ r.0.needed in (n.0, n.1)
    done_as (act.Faa address value sum) h r = let n = now _ r.0.needed in (n.0, n.1)
    done_as (act.Print value) h r = absurd (now _ r.0.needed)
    done_as act.Halt h r = absurd (now _ r.0.needed)
    done_as (act.Trapped why) h r = absurd (now _ r.0.needed)
    done_as act.Step h r = absurd (now _ r.0.needed)
    done_as (act.Fault store2 b2) h r = absurd (no_more s g m i cpu front x e sends store2 b2 is k l p r)
    done_as (act.Redelivered kind block from) h r = absurd cc
    done_as (act.Delivered kind block from chan number) h r = absurd cc

  run_waits : (s : Setup) (g : World) (j : List Entry) (h : World) (m : Machine) (i : ℕ) (cpu : Cpu) → IsSetup s →
      IsKept scheme.wording s g m → NoInstruction i j → IsPending (g.locals i) cpu → Runs s g j h → Waits s h i cpu
  run_waits s g [] h m i cpu is k n p r = subst (λ (x : World). Waits s x i cpu) r (record { machine = m; kept = k; pending = p })
  run_waits s g (e ∷ j) h m i cpu is k n p r =
      let on = events_keep scheme s g e r.0 m is k r.1 in
      run_waits s r.0 j h on.goes.next i cpu is on.kept n.1 (step_waits s g e r.0 i cpu r.1 n.0 p) r.2

  pub faults_are_followed : FaultsAreFollowed scheme.wording
  faults_are_followed s g g1 g2 g3 m e e2 mid store b is k r isf run none r2 same instructs =
      let d : Faulting s e.node (g.locals e.node) r.front (g1.locals e.node) e r.sends store b =
      subst (λ (a : Act). Acts s e.node (g.locals e.node) r.front (g1.locals e.node) e r.sends a) isf r.local.acts in
      let on = events_keep scheme s g e g1 m is k r in
      let pending : IsPending (g1.locals e.node) (g.locals e.node).cpu =
      record {
        same = d.handles.cpu;
        waits = subst IsWaitingMode (sym d.handles.mode)
            (waits_on d.handles.ended.woke b (mode.Blocked b) tt);
      } in
      let w = run_waits s g1 mid g2 on.goes.next e.node (g.locals e.node).cpu is on.kept none pending run in
      done_as s is g2 w.machine w.kept e2.node r2.local.at_node (g.locals e.node).cpu
      (subst (λ (i : ℕ). IsPending (g2.locals i) (g.locals e.node).cpu) (sym same) w.pending) store b
      ((g.locals e.node).blocks b).tag
      (subst (λ (i : ℕ). IsRefused s (asked s i (g.locals e.node).cpu) store b ((g.locals e.node).blocks b).tag)
      (sym same) d.refused) r2.front (g3.locals e2.node) e2 r2.sends e2.act instructs r2.local.acts
