-- Where messages of a block may be, who sent them, and which deferred ones are eligible.
use Rattle.coherence_frame.proofs.Rows.{IsOrder, Plan}
use Rattle.std.proofs.Common.{◌≡◌, ◌≢◌, ℕ, ◌<◌, Bool, true, false, List, [], ◌∷◌, ◌++◌, map, Some, arith, sym, ap, ◌∙◌, inl}
use Rattle.std.proofs.Common.{inr, ◌⊎◌}
use Rattle.std.proofs.lemmas.Bool.{cases_eq}
use Rattle.std.proofs.lemmas.Bool.Decides.{nat_tests}
use Rattle.std.specs.List.{filter}
use Rattle.block_spots.specs.Cases.{Message, Here, Kept, No, Stale, Effect}
use Rattle.block_spots.specs.Notes.{Waiting, notes, kept_notes}
use Rattle.block_spots.specs.Sketches.{Local, Wires, Sketch, Handles, OnlyAt, Layout, on_wire, free, with_kept, freed_if}
use Rattle.tw_base.specs.declared.message.Chan.{Chan}
use Rattle.tw_base.specs.declared.message.Chan.TheVariants.{Zero, One}
use Rattle.coherence_frame.specs.Words.{Elsewhere, AllEligible, IsSettled, AllSentBy, IsCacheState}
use Rattle.coherence_frame.proofs.Views.{sent, kept_notes-freed_if}
use Rattle.coherence_frame.proofs.Events.{wire_after, wire_from_other, kept_from_other}
use Rattle.coherence_frame.proofs.Sends.{AllOn, sent_on_other, sent_to_other, CacheSends}

-- eligible messages
pub AllEligible-append : (b : ℕ) (xs ys : List Waiting) → AllEligible b xs → AllEligible b ys → AllEligible b (xs ++ ys)
AllEligible-append b [] ys h k = k
AllEligible-append b (x ∷ xs) ys h k = (h.0, AllEligible-append b xs ys h.1 k)

pub AllEligible-without : (b : ℕ) (xs : List Waiting) (x : Waiting) (ys : List Waiting) → AllEligible b (xs ++ x ∷ ys) →
    AllEligible b (xs ++ ys)
AllEligible-without b [] x ys h = h.1
AllEligible-without b (y ∷ xs) x ys h = (h.0, AllEligible-without b xs x ys h.1)

pub AllEligible-free : (b c : ℕ) (ws : List Waiting) → AllEligible b ws → AllEligible b (map (free c) ws)
AllEligible-free b c [] h = tt
AllEligible-free b c (w ∷ ws) h = (
  (λ e. (let f : w.eligible ≡ true = h.0 e in grind (arith, nat_tests))),
  AllEligible-free b c ws h.1,
)

pub AllEligible_freed : (c : ℕ) (ws : List Waiting) → AllEligible c (map (free c) ws)
AllEligible_freed c [] = tt
AllEligible_freed c (w ∷ ws) = ((λ e. grind (arith, nat_tests)), AllEligible_freed c ws)

pub AllEligible-freed_if : (b c : ℕ) (t : Bool) (ws : List Waiting) → AllEligible b ws → AllEligible b (freed_if t c ws)
AllEligible-freed_if b c true ws h = AllEligible-free b c ws h
AllEligible-freed_if b c false ws h = h

pub AllEligible-with_kept : (b : ℕ) (k : Kept) (m : Message) (ws : List Waiting) → m.block ≢ b → AllEligible b ws →
    AllEligible b (with_kept k m ws)
AllEligible-with_kept b No m ws d h = h
AllEligible-with_kept b Stale m ws d h = AllEligible-append b ws _ h ((λ e. absurd (d e)), tt)

pub settled_frame : (b : ℕ) (e : Effect) (m : Message) (ws : List Waiting) → m.block ≢ b → AllEligible b ws →
    AllEligible b (freed_if e.freed m.block (with_kept e.kept m ws))
settled_frame b e m ws d h = AllEligible-freed_if b m.block e.freed _ (AllEligible-with_kept b e.kept m ws d h)

-- senders
pub AllSentBy-append : (f : ℕ) (xs ys : List Message) → AllSentBy f xs → AllSentBy f ys → AllSentBy f (xs ++ ys)
AllSentBy-append f [] ys h k = k
AllSentBy-append f (x ∷ xs) ys h k = (h.0, AllSentBy-append f xs ys h.1 k)

pub AllSentBy-on_wire : (f t : ℕ) (c : Chan) (ms : List Message) → AllSentBy f (filter (on_wire f t c) ms)
AllSentBy-on_wire f t c [] = tt
AllSentBy-on_wire f t c (m ∷ ms) = grind (arith, nat_tests, AllSentBy-on_wire f t c ms)

module _ (plan : Plan) where
  pub settled_own : (n h : ℕ) (home : Here) (m : Message) (e : Effect) (ws : List Waiting) → plan.table n h h home m ≡ Some e →
      (IsSettled home.state → AllEligible m.block ws) → IsSettled e.here.state →
      AllEligible m.block (freed_if e.freed m.block (with_kept e.kept m ws))
  settled_own n h home m e ws does was st = go (plan.sends.settled_effect n h home m e does st)
    where
      go : (e.freed ≡ true) ⊎ IsSettled home.state × (e.kept ≡ No) →
          AllEligible m.block (freed_if e.freed m.block (with_kept e.kept m ws))
      go (inl p) = rw p (AllEligible_freed m.block (with_kept e.kept m ws))
      go (inr p) = rw p.1 (AllEligible-freed_if m.block m.block e.freed ws (was p.0))

  module _ (s : Layout) (i : ℕ) (g g2 : Sketch) (m : Message) (w : Wires) (l : Local) (li : i < s.nodes)
      (d : i ≢ s.home m.block) (el : Elsewhere s g m.block)
      (cs : IsCacheState (l.blocks m.block).state) (order : IsOrder m.kind → m.from ≡ s.home m.block)
      (o : Handles plan.table s.nodes (s.home m.block) i m l w (g2.locals i) g2.wires) (others : OnlyAt i g g2)
      (wires : (f t : ℕ) (c : Chan) → (f ≢ s.home m.block) ⊎ (t ≢ i) ⊎ (c ≢ One) →
      notes m.block (w f t c) ≡ notes m.block (g.wires f t c))
      (kepts : (j : ℕ) → kept_notes m.block j l.deferred ≡ kept_notes m.block j (g.locals i).deferred) where
    cache_elsewhere_sends : CacheSends (s.home m.block) o.effect
    cache_elsewhere_sends = plan.sends.cache_sends s.nodes (s.home m.block) i (l.blocks m.block) m o.effect cs o.does order

    pub cache_elsewhere : Elsewhere s g2 m.block
    cache_elsewhere = record {
      between = λ f t c fl tl fh th. wire_after plan s.nodes _ i m l w _ _ o f t c
          ∙ ap (λ z. z ++ sent m.block o.effect.sends f t c) (wires f t c (inl fh) ∙ el.between f t c fl tl fh th)
          ∙ sent_to_other m.block f t _ c o.effect.sends cache_elsewhere_sends.to th;
      from_home = λ t tl th. wire_from_other plan s.nodes _ i m l w _ _ o (s.home m.block) t Zero (λ q. d (sym q))
          ∙ wires (s.home m.block) t Zero (inr (inr (λ q. (let z : Zero ≡ One = q in cc)))) ∙ el.from_home t tl th;
      deferred =
          λ k j kl kh. elim (cases_eq k i) [
            | inl e ↦ rw e (kept_here j)
            | inr e ↦ ap (λ z. kept_notes m.block j z.deferred)
                (others k e) ∙ el.deferred k j kl kh
          ];
      strangers = λ j lj. ap (λ z. kept_notes m.block j z.deferred) (others (s.home m.block) (λ q. d (sym q)))
          ∙ el.strangers j lj;
    }
      where
        kept_here : (j : ℕ) → kept_notes m.block j (g2.locals i).deferred ≡ []
        kept_here j =
            ap (kept_notes m.block j) (o.deferred ∙ ap (λ z. freed_if o.effect.freed m.block (with_kept z m l.deferred))
            cache_elsewhere_sends.kept)
            ∙ kept_notes-freed_if m.block j m.block o.effect.freed l.deferred ∙ kepts j ∙ el.deferred i j li d

  module _ (s : Layout) (g g2 : Sketch) (m : Message) (w : Wires) (l : Local) (el : Elsewhere s g m.block)
      (from : m.from < s.nodes)
      (o : Handles plan.table s.nodes (s.home m.block) (s.home m.block) m l w (g2.locals (s.home m.block)) g2.wires)
      (others : OnlyAt (s.home m.block) g g2) (on_one : AllOn One o.effect.sends)
      (wires : (f t : ℕ) (c : Chan) → t ≢ s.home m.block → notes m.block (w f t c) ≡ notes m.block (g.wires f t c))
      (kepts : (j : ℕ) → m.from ≢ j → kept_notes m.block j l.deferred
      ≡ kept_notes m.block j (g.locals (s.home m.block)).deferred) where
    pub home_elsewhere : Elsewhere s g2 m.block
    home_elsewhere = record {
      between = λ f t c fl tl fh th. wire_from_other plan s.nodes _ _ m l w _ _ o f t c fh ∙ wires f t c th
          ∙ el.between f t c fl tl fh th;
      from_home = λ t tl th. wire_after plan s.nodes _ _ m l w _ _ o (s.home m.block) t Zero
          ∙ ap (λ z. z ++ sent m.block o.effect.sends (s.home m.block) t Zero)
          (wires (s.home m.block) t Zero th ∙ el.from_home t tl th)
          ∙ sent_on_other m.block (s.home m.block) t o.effect.sends on_one;
      deferred = λ k j kl kh. ap (λ z. kept_notes m.block j z.deferred) (others k kh) ∙ el.deferred k j kl kh;
      strangers = λ j lj. kept_from_other plan s.nodes _ _ m l w _ _ o j (omega arith) ∙ kepts j (omega arith)
          ∙ el.strangers j lj;
    }
