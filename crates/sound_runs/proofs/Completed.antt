-- After a refused access the node's next instruction event completes it.
use Rattle.std.proofs.Common.{◌≡◌, ℕ, List, [], ◌∷◌, ◌++◌, Bool, Option, refl, sym, ap, subst, inl, inr, ◌∙◌}
use Rattle.std.proofs.lemmas.Bool.{cases_eq}
use Rattle.tw_base.specs.declared.entry.Act.{Act}
use Rattle.tw_base.specs.declared.entry.Act.TheVariants as act
use Rattle.tw_base.specs.declared.entry.Entry.{Entry}
use Rattle.tw_base.specs.declared.message.Message.{Message}
use Rattle.dsm_runs.specs.Events.{Acts}
use Rattle.dsm_runs.specs.Flat.{flat_start}
use Rattle.dsm_runs.specs.Locals.{Local}
use Rattle.dsm_runs.specs.Setups.{IsSetup, Setup}
use Rattle.dsm_runs.specs.Worlds.{Runs, Step, World, start}
use Rattle.coherence_frame.specs.Ends.{NoInstruction}
use Rattle.coherence_frame.specs.Parts.{IsTreeOf}
use Rattle.coherence_frame.specs.Potential.{is_handler_event}
use Rattle.coherence_frame.proofs.Followed.{faults_are_followed}
use Rattle.coherence_frame.proofs.Keeping.{goes_on, starts_kept}
use Rattle.coherence_frame.proofs.Scheme.{Scheme}
use Rattle.sound_runs.specs.Sound.{RefusedAccessesAreCompleted}

-- ---- a run in two parts

record Parts (s : Setup) (g : World) (first second : List Entry) (h : World) : Type 0 where
  mid : World
  one : Runs s g first mid
  two : Runs s mid second h

parts : (s : Setup) (first second : List Entry) (g h : World) → Runs s g (first ++ second) h → Parts s g first second h
parts s [] second g h r = record { mid = g; one = refl; two = r }
parts s (e ∷ first) second g h r =
    let rest = parts s first second r.0 h r.2 in
    record { mid = rest.mid; one = (r.0, r.1, rest.one); two = rest.two }

-- ---- the processor of a node that makes no instruction event

keeps_cpu :
    (s : Setup) (i : ℕ) (l : Local) (front : Option Message) (x : Local) (e : Entry) (sends : List Message) (a : Act) →
    is_handler_event a ≡ 1 → Acts s i l front x e sends a → x.cpu ≡ l.cpu
keeps_cpu s i l front x e sends (act.Redelivered kind block from) h p = p.handles.cpu
keeps_cpu s i l front x e sends (act.Delivered kind block from chan number) h p = p.handles.cpu
keeps_cpu s i l front x e sends (act.Load address value) h p = absurd cc
keeps_cpu s i l front x e sends (act.Store address value) h p = absurd cc
keeps_cpu s i l front x e sends (act.Faa address value sum) h p = absurd cc
keeps_cpu s i l front x e sends (act.Print value) h p = absurd cc
keeps_cpu s i l front x e sends act.Halt h p = absurd cc
keeps_cpu s i l front x e sends (act.Trapped why) h p = absurd cc
keeps_cpu s i l front x e sends act.Step h p = absurd cc
keeps_cpu s i l front x e sends (act.Fault store block) h p = absurd cc

step_keeps_cpu :
    (s : Setup) (g : World) (e : Entry) (h : World) (i : ℕ) → Step s g e h → (e.node ≡ i → is_handler_event e.act ≡ 1) →
    (h.locals i).cpu ≡ (g.locals i).cpu
step_keeps_cpu s g e h i r only = elim (cases_eq i e.node) [
  | inl q ↦ subst (λ (k : ℕ). (h.locals k).cpu ≡ (g.locals k).cpu) (sym q)
      (keeps_cpu s e.node (g.locals e.node) r.front (h.locals e.node) e r.sends e.act (only (sym q)) r.local.acts)
  | inr d ↦ ap (λ (l : Local). l.cpu) (r.others i d)
]

run_keeps_cpu :
    (s : Setup) (j : List Entry) (g h : World) (i : ℕ) → NoInstruction i j → Runs s g j h → (h.locals i).cpu ≡
    (g.locals i).cpu
run_keeps_cpu s [] g h i none r = ap (λ (x : World). (x.locals i).cpu) (sym r)
run_keeps_cpu s (e ∷ j) g h i none r = run_keeps_cpu s j r.0 h i none.1 r.2 ∙ step_keeps_cpu s g e r.0 i r.1 none.0

fault_keeps_cpu :
    (s : Setup) (g : World) (e : Entry) (h : World) (store : Bool) (b : ℕ) → e.act ≡ act.Fault store b → Step s g e h →
    (h.locals e.node).cpu ≡ (g.locals e.node).cpu
fault_keeps_cpu s g e h store b is r =
    let p : Acts s e.node (g.locals e.node) r.front (h.locals e.node) e r.sends (act.Fault store b) = subst
    (λ (a : Act). Acts s e.node (g.locals e.node) r.front (h.locals e.node) e r.sends a) is r.local.acts in
    p.handles.cpu

-- ---- the access

pub refused_accesses_are_completed :
    (p : Scheme) (s : Setup) (j : List Entry) (g : World) → IsSetup s → IsTreeOf p.wording s.protocol → Runs s (start s) j g →
    RefusedAccessesAreCompleted s j
refused_accesses_are_completed p s j g is tree r earlier between later e e2 store b split fault none same instructs =
    let all : Runs s (start s) (earlier ++ e ∷ (between ++ e2 ∷ later)) g = subst
    (λ (es : List Entry). Runs s (start s) es g) split r in
    let to = parts s earlier (e ∷ (between ++ e2 ∷ later)) (start s) g all in
    let from = parts s between (e2 ∷ later) to.two.0 g to.two.2 in
    let kept = goes_on p s earlier (start s) to.mid (flat_start s) is (starts_kept p s is tree) to.one in
    record {
      refused = to.mid;
      completed = from.mid;
      to_refused = to.one;
      to_completed = (to.two.0, to.two.1, from.one);
      access = faults_are_followed p s to.mid to.two.0 from.mid from.two.0 kept.flat e e2 between store b is kept.kept to.two.1
          fault from.one none from.two.1 same instructs;
      same_processor = run_keeps_cpu s between to.two.0 from.mid e.node none from.one ∙ fault_keeps_cpu s to.mid e to.two.0
          store b fault to.two.1;
    }
