-- Under a protocol that keeps coherence no handler fails.
use Rattle.std.proofs.Common.{◌≡◌, ℕ, ◌<◌, List, [], ◌∷◌, Option, Some, None, refl, sym, ap, ◌∙◌}
use Rattle.tw_base.specs.Lists.{Each}
use Rattle.tw_base.specs.declared.entry.Act.{Act}
use Rattle.tw_base.specs.declared.entry.Act.TheVariants as act
use Rattle.tw_base.specs.declared.entry.After.{After}
use Rattle.tw_base.specs.declared.entry.End.{End}
use Rattle.tw_base.specs.declared.entry.End.TheVariants.{Fine, Failed, TooDeep}
use Rattle.tw_base.specs.declared.entry.Entry.{Entry}
use Rattle.tw_base.specs.declared.message.Message.{Message}
use Rattle.mini_asm.specs.Run.{Machine}
use Rattle.dsm_runs.specs.Events.{Acts, Handles, after_of, failure}
use Rattle.dsm_runs.specs.Locals.{Local}
use Rattle.dsm_runs.specs.Setups.{IsSetup, Setup}
use Rattle.dsm_runs.specs.Worlds.{Runs, World}
use Rattle.coherence_frame.specs.Laws.{IsKept}
use Rattle.coherence_frame.specs.Parts.{First}
use Rattle.coherence_frame.proofs.Keeping.{events_keep}
use Rattle.coherence_frame.proofs.Scheme.{Scheme}
use Rattle.sound_runs.specs.Sound.{CameToItsEnd}

fine : (e : End) → failure e ≡ None → e ≡ Fine
fine Fine h = refl
fine (Failed k) h = absurd cc
fine TooDeep h = absurd cc

same_after : (a b : After) (x : Option After) → x ≡ Some a → x ≡ Some b → a ≡ b
same_after a b x h k = cc

handler_fine :
    (s : Setup) (i stamp : ℕ) (m : Message) (l x : Local) (sends : List Message) (after : Option After) (a : After) →
    Handles s i stamp m l x sends after → x.failed ≡ None → after ≡ Some a → a.end ≡ Fine
handler_fine s i stamp m l x sends after a r ok is =
    ap (λ (b : After). b.end) (same_after a (after_of m.block r.ended) after is r.leaves) ∙ fine r.ended.end (sym r.failed ∙ ok)

none : (x : Option After) (a : After) → x ≡ None → x ≡ Some a → ⊥
none x a h k = absurd cc

acts_fine :
    (s : Setup) (i : ℕ) (l : Local) (front : Option Message) (x : Local) (e : Entry) (sends : List Message) (a : Act) →
    x.failed ≡ None → Acts s i l front x e sends a → CameToItsEnd e
acts_fine s i l front x e sends (act.Load address value) ok p = λ a is. absurd (none e.after a p.0.no_handler is)
acts_fine s i l front x e sends (act.Store address value) ok p = λ a is. absurd (none e.after a p.0.no_handler is)
acts_fine s i l front x e sends (act.Faa address value sum) ok p = λ a is. absurd (none e.after a p.0.no_handler is)
acts_fine s i l front x e sends (act.Print value) ok p = λ a is. absurd (none e.after a p.0.no_handler is)
acts_fine s i l front x e sends act.Halt ok p = λ a is. absurd (none e.after a p.0.no_handler is)
acts_fine s i l front x e sends (act.Trapped why) ok p = λ a is. absurd (none e.after a p.0.no_handler is)
acts_fine s i l front x e sends act.Step ok p = λ a is. absurd (none e.after a p.0.no_handler is)
acts_fine s i l front x e sends (act.Fault store block) ok p = λ a is. handler_fine s i e.stamp _ _ x sends e.after a
    p.handles ok is
acts_fine s i l front x e sends (act.Redelivered kind block from) ok p = λ a is. handler_fine s i e.stamp p.message _ x sends
    e.after a p.handles ok is
acts_fine s i l front x e sends (act.Delivered kind block from chan number) ok p = λ a is. handler_fine s i e.stamp p.message
    _ x sends e.after a p.handles ok is

-- in a coherent state no node has failed
pub unfailed :
    (p : Scheme) (s : Setup) (g : World) (m : Machine) (i : ℕ) → IsSetup s → IsKept p.wording s g m → i < s.shape.nodes →
    (g.locals i).failed ≡ None
unfailed p s g m i is k l = (k.coherent 0 is.limits.some_block First).unfailed i l

pub handlers_fine :
    (p : Scheme) (s : Setup) (g : World) (j : List Entry) (h : World) (m : Machine) → IsSetup s → IsKept p.wording s g m →
    Runs s g j h → Each CameToItsEnd j
handlers_fine p s g [] h m is k r = tt
handlers_fine p s g (e ∷ j) h m is k r =
    let on = events_keep p s g e r.0 m is k r.1 in (
      acts_fine s e.node (g.locals e.node) r.1.front (r.0.locals e.node) e r.1.sends e.act
          (unfailed p s r.0 on.goes.next e.node is on.kept r.1.local.at_node) r.1.local.acts,
      handlers_fine p s r.0 j h on.goes.next is on.kept r.2,
    )
