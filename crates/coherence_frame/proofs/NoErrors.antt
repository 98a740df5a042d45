-- In a coherent state no handler meets an error.
use Rattle.coherence_frame.proofs.Rows.{IsAnswered, Plan}
use Rattle.std.proofs.Common.{Bool, false, ◌≡◌, ◌≢◌, ℕ, ◌<◌, true, List, [], ◌∷◌, ◌++◌, refl, sym, ap, ◌∙◌, inl, inr, ◌⊎◌}
use Rattle.std.proofs.lemmas.Bool.{cases_eq, cases_lt}
use Rattle.block_spots.specs.Cases.{RdFault, WrFault, HomeRw, Message}
use Rattle.block_spots.specs.Notes.{Waiting, Note, note, notes, kept_notes}
use Rattle.block_spots.specs.Sketches.{fault_kind, Sketch, Layout, fault, spot_at, home_at}
use Rattle.block_tags.specs.Copies.{permits}
use Rattle.tw_base.specs.declared.value.Tag.TheVariants.{ReadWrite}
use Rattle.dsm_runs.specs.Locals.{IsReady}
use Rattle.tw_base.specs.declared.message.Chan.{Chan}
use Rattle.tw_base.specs.declared.message.Chan.TheVariants.{Zero, One}
use Rattle.coherence_frame.specs.Coherent.{AtHome, Coherent}
use Rattle.coherence_frame.specs.Words.{IsGet}
use Rattle.coherence_frame.proofs.Views.{notes_same, kept_notes-append, kept_notes_same}
use Rattle.coherence_frame.proofs.AtHomes.{each_tail, each_mid, lone_fault}
use Rattle.coherence_frame.proofs.Instructions.{Idle, idle}
use Rattle.coherence_frame.proofs.AtCaches.{only_down}

module _ (plan : Plan) where
  -- the front of a wire is answered at its receiver
  pub front_answered : (s : Layout) (flat : ℕ → List ℕ) (g : Sketch) (i f : ℕ) (c : Chan) (m : Message) (ms : List Message) →
      Coherent plan.words s flat g → m.block < s.blocks → i < s.nodes → f < s.nodes → g.wires f i c ≡ m ∷ ms →
      IsAnswered (plan.table s.nodes (s.home m.block) i ((g.locals i).blocks m.block) m)
  unfolding spot_at
  front_answered s flat g i f c m ms k lb li lf e = elim (cases_eq i (s.home m.block))
      [ inl q ↦ rw q (at_home q c refl) | inr d ↦ at_cache d ]
    where
      came : notes m.block (g.wires f i c) ≡ note m ∷ notes m.block ms
      came = ap (notes m.block) e ∙ notes_same m.block m ms refl

      own : AtHome plan.words s.nodes (s.home m.block) (home_at g m.block (s.home m.block))
          (spot_at g m.block (s.home m.block) (s.home m.block))
      own = (k.block m.block lb).at_home

      at_cache : i ≢ s.home m.block → IsAnswered (plan.table s.nodes (s.home m.block) i ((g.locals i).blocks m.block) m)
      at_cache d =
          let w : (f ≡ s.home m.block) × (c ≡ One) = only_down s.nodes m.block g (s.home m.block) i f c li lf d
          (k.elsewhere m.block lb).between (k.elsewhere m.block lb).from_home _ _ came in
          plan.cache.cache_answers s.nodes _ _ _ i (spot_at g m.block (s.home m.block) i) m _
          ((k.block m.block lb).caches i li d) refl (rw w.1 at (rw w.0 at came))

      at_home : i ≡ s.home m.block → (x : Chan) → c ≡ x → IsAnswered
          (plan.table s.nodes (s.home m.block) (s.home m.block) (home_at g m.block (s.home m.block)) m)
      at_home q x r = by_sender (cases_eq f (s.home m.block)) x r
        where
          by_sender : (f ≡ s.home m.block) ⊎ (f ≢ s.home m.block) → (x : Chan) → c ≡ x →
              IsAnswered (plan.table s.nodes (s.home m.block) (s.home m.block) (home_at g m.block (s.home m.block)) m)
          by_sender (inl p) Zero r = absurd (let z : notes m.block (g.wires f i c) ≡ [] = rw (p, q, r) own.ask in cc came)
          by_sender (inl p) One r = absurd (let z : notes m.block (g.wires f i c) ≡ [] = rw (p, q, r) own.down in cc came)
          by_sender (inr p) Zero r = plan.home.home_answers_get s.nodes _ _ _ m own
              (each_tail IsGet _ _ _ (rw (q, r) at came) ((k.block m.block lb).caches f lf p).asks).0
          by_sender (inr p) One r = plan.home.home_answers_answer s.nodes _ f _ _ _ m _ own
              ((k.block m.block lb).caches f lf p) (rw (q, r) at came)

  -- a refused access is answered, at a cache and at the home
  pub fault_answered : (s : Layout) (flat : ℕ → List ℕ) (g : Sketch) (i b : ℕ) (store : Bool) → Coherent plan.words s flat g →
      b < s.blocks → i < s.nodes → IsReady (g.locals i).mode →
      permits ((g.locals i).blocks b).tag store ≡ false → IsAnswered
      (plan.table s.nodes (s.home b) i ((g.locals i).blocks b) (fault store b i))
  unfolding spot_at
  fault_answered s flat g i b store k lb li r v = elim (cases_eq i (s.home b)) [
    | inl q ↦ rw q (plan.home.home_answers_fault s.nodes (s.home b) _ _ (fault store b (s.home b)) own (not_all (rw q at v))
        (kind store))
    | inr d ↦ plan.cache.cache_answers_fault s.nodes (s.home b) i b _ store ((k.block b lb).caches i li d).state
        ((k.block b lb).caches i li d).tag (idle_here.ro d) (idle_here.write d) v
  ]
    where
      own : AtHome plan.words s.nodes (s.home b) (home_at g b (s.home b)) (spot_at g b (s.home b) (s.home b))
      own = (k.block b lb).at_home

      idle_here : Idle s (g.locals i) i b
      idle_here = idle plan s (g.locals i) i b r (k.node i b li lb)

      kind : (y : Bool) → (fault_kind y ≡ RdFault) ⊎ (fault_kind y ≡ WrFault)
      kind true = inr refl
      kind false = inl refl

      not_all : permits (home_at g b (s.home b)).tag store ≡ false → (home_at g b (s.home b)).state ≢ HomeRw
      not_all w p = let z : permits ReadWrite store ≡ false = rw (own.tag, p) at w in cc

  -- a deferred message is answered
  pub deferred_answered : (s : Layout) (flat : ℕ → List ℕ) (g : Sketch) (i : ℕ) (m : Message) (earlier later : List Waiting) →
      Coherent plan.words s flat g → m.block < s.blocks → i < s.nodes →
      (g.locals i).deferred ≡ earlier ++ record { message = m; eligible = true } ∷ later →
      IsAnswered (plan.table s.nodes (s.home m.block) i ((g.locals i).blocks m.block) m)
  unfolding spot_at
  deferred_answered s flat g i m earlier later k lb li e = elim
      (cases_eq i (s.home m.block)) [
        | inl q ↦ rw q (at_home (rw q at e))
        | inr d ↦ absurd
            (nowhere ((k.elsewhere m.block lb).deferred i m.from li d))
      ]
    where
      split : (x : List Waiting) → x ≡ earlier ++ record { message = m; eligible = true } ∷ later →
          kept_notes m.block m.from x ≡ kept_notes m.block m.from earlier ++ note m ∷ kept_notes m.block m.from later
      split x p = ap (kept_notes m.block m.from) p ∙ kept_notes-append m.block m.from earlier _
          ∙ ap (λ z. kept_notes m.block m.from earlier ++ z)
          (kept_notes_same m.block m.from (record { message = m; eligible = true }) later refl refl)

      not_nil : (xs : List Note) (x : Note) (ys : List Note) → xs ++ x ∷ ys ≡ [] → ⊥
      not_nil [] x ys p = cc
      not_nil (y ∷ xs) x ys p = cc

      nowhere : kept_notes m.block m.from (g.locals i).deferred ≡ [] → ⊥
      nowhere p = not_nil _ _ _ (sym (split _ e) ∙ p)

      at_home : (g.locals (s.home m.block)).deferred ≡ earlier ++ record { message = m; eligible = true } ∷ later →
          IsAnswered (plan.table s.nodes (s.home m.block) (s.home m.block) (home_at g m.block (s.home m.block)) m)
      at_home p = elim (cases_eq m.from (s.home m.block)) [
        | inl q ↦ (let l = lone_fault plan s.nodes (s.home m.block) (flat m.block) g m earlier later
            (k.block m.block lb) q p in plan.home.home_answers_fault s.nodes (s.home m.block) _ _ m
            (k.block m.block lb).at_home l.not_all l.kind)
        | inr d ↦ elim (cases_lt m.from s.nodes) [
          | inl l ↦ plan.home.home_answers_get s.nodes (s.home m.block) _ _ m (k.block m.block lb).at_home
              (each_mid IsGet _ _ (note m) _ (split _ p) ((k.block m.block lb).caches m.from l d).keeps).0
          | inr l ↦ absurd (not_nil _ _ _ (sym (split _ p) ∙ (k.elsewhere m.block lb).strangers m.from l))
        ]
      ]
