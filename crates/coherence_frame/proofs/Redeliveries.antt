-- A redelivery keeps coherence.
use Rattle.std.proofs.Common.{◌≡◌, ◌≢◌, ℕ, ◌<◌, ◌≤◌, true, List, [], ◌∷◌, ◌++◌, arith, refl, sym, ap, subst, ◌∙◌, inl, inr, ◌⊎◌}
use Rattle.std.proofs.lemmas.Bool.{cases_eq, cases_lt}
use Rattle.block_spots.specs.Cases.{RdFault, WrFault, Message}
use Rattle.block_spots.specs.Notes.{Note, note, kept_notes, is_rd_fault, is_wr_fault}
use Rattle.block_spots.specs.Sketches.{Sketch, Handles, OnlyAt, Layout, Redelivers, Loads, Stores, spot_at, home_at}
use Rattle.dsm_runs.specs.declared.mode.Mode.TheVariants.{Blocked}
use Rattle.tw_base.specs.Lists.{how_many}
use Rattle.tw_base.specs.declared.message.Chan.{Chan}
use Rattle.coherence_frame.specs.Coherent.{AtBlock, AtNode, Coherent}
use Rattle.coherence_frame.specs.Words.{Elsewhere, AllEligible, IsSettled, AllSentBy, IsGet}
use Rattle.coherence_frame.proofs.Frame.{redelivers_frame}
use Rattle.coherence_frame.proofs.Counts.{how_many-append}
use Rattle.coherence_frame.proofs.Views.{kept_notes-append, kept_notes_same}
use Rattle.coherence_frame.proofs.Events.{kept_from_other, kept_from_sender}
use Rattle.coherence_frame.proofs.AtHomes.{request_again, own_fault, lone_fault, LoneFault, kept_notes_taken_from_other, each_mid}
use Rattle.coherence_frame.proofs.Elsewheres.{home_elsewhere, settled_frame, settled_own, AllSentBy-append, AllSentBy-on_wire}
use Rattle.coherence_frame.proofs.Elsewheres.{AllEligible-without}
use Rattle.coherence_frame.proofs.Nodes.{node_frame, node_home_other, node_home_own}
use Rattle.coherence_frame.proofs.Deliveries.{next_of_blocked, block_frame, elsewhere_frame}
use Rattle.coherence_frame.proofs.Turning.{kept_if}
use Rattle.coherence_frame.proofs.Rows.{Plan}

pub no_fault_get : (m : Message) → IsGet (note m) → (m.kind ≢ RdFault) × (m.kind ≢ WrFault)
no_fault_get m h = ((λ q. grind arith), (λ q. grind arith))

module _ (plan : Plan) where
  module _ (s : Layout) (flat : ℕ → List ℕ) (g : Sketch) (i : ℕ) (g2 : Sketch) (e : Redelivers plan.table s g i g2)
      (k : Coherent plan.words s flat g) where
    -- node i is the block's home, since only the home has deferred messages of it
    pub is_home : i ≡ s.home e.message.block
    is_home = elim (cases_eq i (s.home e.message.block)) [ inl q ↦ q | inr d ↦ absurd (none d) ]
      where
        old : kept_notes e.message.block e.message.from (g.locals i).deferred
            ≡ kept_notes e.message.block e.message.from e.earlier
            ++ note e.message ∷ kept_notes e.message.block e.message.from e.later
        old = ap (kept_notes e.message.block e.message.from) e.found
            ∙ kept_notes-append e.message.block e.message.from e.earlier _
            ∙ ap (λ z. kept_notes e.message.block e.message.from e.earlier ++ z)
            (kept_notes_same e.message.block e.message.from (record { message = e.message; eligible = true }) e.later refl refl)

        none : i ≢ s.home e.message.block → ⊥
        none d = not_nil _ _ _ (sym old ∙ (k.elsewhere e.message.block e.in_shape).deferred i e.message.from e.at_node d)
          where
            not_nil : (xs : List Note) (x : Note) (ys : List Note) → xs ++ x ∷ ys ≡ [] → ⊥
            not_nil [] x ys p = cc
            not_nil (y ∷ xs) x ys p = cc

    -- the deferred message comes from a node of the setup
    pub from_node : e.message.from < s.nodes
    from_node = elim (cases_lt e.message.from s.nodes) [ inl l ↦ l | inr l ↦ absurd (none l) ]
      where
        old : kept_notes e.message.block e.message.from (g.locals (s.home e.message.block)).deferred
            ≡ kept_notes e.message.block e.message.from e.earlier
            ++ note e.message ∷ kept_notes e.message.block e.message.from e.later
        old = rw is_home at (ap (kept_notes e.message.block e.message.from) e.found
            ∙ kept_notes-append e.message.block e.message.from e.earlier _
            ∙ ap (λ z. kept_notes e.message.block e.message.from e.earlier ++ z)
            (kept_notes_same e.message.block e.message.from (record { message = e.message; eligible = true }) e.later refl
            refl))

        none : s.nodes ≤ e.message.from → ⊥
        none l = not_nil _ _ _ (sym old ∙ (k.elsewhere e.message.block e.in_shape).strangers e.message.from l)
          where
            not_nil : (xs : List Note) (x : Note) (ys : List Note) → xs ++ x ∷ ys ≡ [] → ⊥
            not_nil [] x ys p = cc
            not_nil (y ∷ xs) x ys p = cc

    pub o : Handles plan.table s.nodes (s.home e.message.block) (s.home e.message.block) e.message
        (record (g.locals (s.home e.message.block)) { deferred = e.earlier ++ e.later }) g.wires
        (g2.locals (s.home e.message.block)) g2.wires
    o = rw is_home at e.handles

    pub found : (g.locals (s.home e.message.block)).deferred ≡ e.earlier
        ++ record { message = e.message; eligible = true } ∷ e.later
    found = rw is_home at e.found

    pub others : OnlyAt (s.home e.message.block) g g2
    others = rw is_home at e.others

    kept_past : (j : ℕ) → e.message.from ≢ j → kept_notes e.message.block j (e.earlier ++ e.later)
        ≡ kept_notes e.message.block j (g.locals (s.home e.message.block)).deferred
    kept_past j d = kept_notes_taken_from_other e.message.block j
        (record { message = e.message; eligible = true }) e.earlier e.later d ∙ sym (ap (kept_notes e.message.block j) found)

    pub lone : e.message.from ≡ s.home e.message.block → LoneFault s.nodes (s.home e.message.block) g e.message e.earlier e.later
    lone p = lone_fault plan s.nodes _ (flat e.message.block) g e.message e.earlier e.later
        (k.block e.message.block e.in_shape) p found

    own_block : AtBlock plan.words s.nodes (s.home e.message.block) (flat e.message.block)
        (home_at g2 e.message.block (s.home e.message.block)) (spot_at g2 e.message.block (s.home e.message.block))
    own_block = elim (cases_eq e.message.from (s.home e.message.block)) [
      | inl p ↦ own_fault plan s.nodes _ (flat e.message.block) g g2 e.message _ (k.homes _)
          (k.block e.message.block e.in_shape) p (lone p).kind refl o others (λ j d. kept_past j (λ r. d (sym r ∙ p)))
          (lone p).none (lone p).unheld (lone p).not_all
      | inr d ↦ request_again plan s.nodes _ e.message.from (flat e.message.block) g g2 e.message e.earlier e.later (k.homes _)
          (k.block e.message.block e.in_shape) refl from_node d found o others
    ]

    pub redeliver_block : (b : ℕ) → b < s.blocks → AtBlock plan.words s.nodes (s.home b) (flat b) (home_at g2 b (s.home b))
        (spot_at g2 b (s.home b))
    redeliver_block b lb = elim (cases_eq b e.message.block) [
      | inl p ↦ rw p own_block
      | inr p ↦ block_frame plan s.nodes (s.home b) (flat b) g g2 b (redelivers_frame plan s g i g2 e b (λ q. p (sym q)))
          (k.block b lb)
    ]

    pub redeliver_elsewhere : (b : ℕ) → b < s.blocks → Elsewhere s g2 b
    redeliver_elsewhere b lb = elim (cases_eq b e.message.block) [
      | inl p ↦ rw p (home_elsewhere plan s g g2 e.message g.wires _ (k.elsewhere _ e.in_shape) from_node o others
          (plan.sends.home_on_one s.nodes _ _ _ e.message o.effect (k.block e.message.block e.in_shape).at_home o.does)
          (λ f2 t2 c2 x. refl) kept_past)
      | inr p ↦ elsewhere_frame s g g2 b (redelivers_frame plan s g i g2 e b (λ q. p (sym q))) (k.elsewhere b lb)
    ]

    pub redeliver_sent : (f2 t2 : ℕ) (c2 : Chan) → AllSentBy f2 (g2.wires f2 t2 c2)
    redeliver_sent f2 t2 c2 =
        rw (o.wires f2 t2 c2) (AllSentBy-append f2 _ _ (k.sent f2 t2 c2) (AllSentBy-on_wire f2 t2 c2 o.effect.sends))

    is_get : e.message.from ≢ s.home e.message.block → IsGet (note e.message)
    unfolding spot_at
    is_get d =
        (each_mid IsGet _ (kept_notes e.message.block e.message.from e.earlier) (note e.message)
        (kept_notes e.message.block e.message.from e.later)
        (ap (kept_notes e.message.block e.message.from) found ∙ kept_notes-append e.message.block e.message.from e.earlier _
        ∙ ap (λ z. kept_notes e.message.block e.message.from e.earlier ++ z)
        (kept_notes_same e.message.block e.message.from (record { message = e.message; eligible = true }) e.later refl
        refl))
        ((k.block e.message.block e.in_shape).caches e.message.from from_node d).keeps).0

    node_own : AtNode plan.words s (g2.locals (s.home e.message.block)) (s.home e.message.block) e.message.block
    node_own = elim (cases_eq e.message.from (s.home e.message.block)) [ inl p ↦ own p | inr d ↦ other d ]
      where
        was : AtNode plan.words s (g.locals (s.home e.message.block)) (s.home e.message.block) e.message.block
        was = k.node (s.home e.message.block) e.message.block (k.homes _) e.in_shape

        other : e.message.from ≢ s.home e.message.block → AtNode plan.words s (g2.locals (s.home e.message.block))
            (s.home e.message.block) e.message.block
        other d = node_home_other plan.words s (g.locals (s.home e.message.block)) _ _ e.message.block o.effect was refl
            (plan.home.home_effect s.nodes _ _ _ e.message o.effect (k.block e.message.block e.in_shape).at_home o.does
            (no_fault_get e.message (is_get d)).0 (no_fault_get e.message (is_get d)).1)
            (kept_from_other plan s.nodes _ _ e.message _ _ _ _ o (s.home e.message.block) d
            ∙ kept_past (s.home e.message.block) d) o.here o.mode o.next o.may (rw is_home at e.free)

        own : e.message.from ≡ s.home e.message.block → AtNode plan.words s (g2.locals (s.home e.message.block))
            (s.home e.message.block) e.message.block
        own p = node_home_own plan.words s (record (g.locals (s.home e.message.block)) { deferred = e.earlier ++ e.later }) _ _
            e.message.block e.message o.effect refl
            (plan.home.own_effect s.nodes _ _ _ e.message o.effect e.message.block
            (k.block e.message.block e.in_shape).at_home o.does (lone p).kind (lone p).unheld (lone p).not_all)
            (kept_from_sender plan s.nodes _ _ e.message _ _ _ _ o _ p
            ∙ ap (λ z. z ++ kept_if o.effect.kept (note e.message)) (lone p).none) o.here o.mode o.next
            (both (lone p).kind).0 (both (lone p).kind).1
          where
            split : (f : Note → ℕ) →
                how_many f (kept_notes e.message.block (s.home e.message.block) (g.locals (s.home e.message.block)).deferred)
                ≡ how_many f (kept_notes e.message.block (s.home e.message.block) e.earlier
                ++ note e.message ∷ kept_notes e.message.block (s.home e.message.block) e.later)
            split f = ap (how_many f) (ap (kept_notes e.message.block (s.home e.message.block)) found
                ∙ kept_notes-append e.message.block (s.home e.message.block) e.earlier _
                ∙ ap (λ z. kept_notes e.message.block (s.home e.message.block) e.earlier ++ z)
                (kept_notes_same e.message.block (s.home e.message.block)
                (record { message = e.message; eligible = true }) e.later refl p))

            at_least : (f : Note → ℕ) → f (note e.message) ≡ 1 →
                1 ≤ how_many f (kept_notes e.message.block (s.home e.message.block)
                (g.locals (s.home e.message.block)).deferred)
            at_least f q =
                omega (
                  arith,
                  split f,
                  how_many-append f (kept_notes e.message.block (s.home e.message.block) e.earlier)
                      (note e.message ∷ kept_notes e.message.block (s.home e.message.block) e.later),
                  q,
                )

            both : (e.message.kind ≡ RdFault) ⊎ (e.message.kind ≡ WrFault) →
                ((g.locals (s.home e.message.block)).mode ≡ Blocked e.message.block)
                × ((e.message.kind ≡ RdFault) × ((g.locals (s.home e.message.block)).next ≡ Loads e.message.block)
                ⊎ (e.message.kind ≡ WrFault) × ((g.locals (s.home e.message.block)).next ≡ Stores e.message.block))
            both (inl q) = let w =
                was.rd refl (at_least is_rd_fault (let z : is_rd_fault (note e.message) ≡ 1 = grind arith in z)) in
                (w.0, inl (q, w.1))
            both (inr q) = let w =
                was.wr refl (at_least is_wr_fault (let z : is_wr_fault (note e.message) ≡ 1 = grind arith in z)) in
                (w.0, inr (q, w.1))

    node_at : (b : ℕ) → b < s.blocks → AtNode plan.words s (g2.locals i) i b
    node_at b lb = elim (cases_eq b e.message.block) [
      | inl p ↦ rw (p, is_home) node_own
      | inr p ↦ node_frame plan.words s (g.locals i) (g2.locals i) i b e.message.block e.handles.effect.woke
          (k.node i b e.at_node lb) (next_of_blocked plan s (g.locals i) i e.message.block
          (k.node i e.message.block e.at_node e.in_shape))
          (record { block = e.handles.others b p; kept = (redelivers_frame plan s g i g2 e b (λ q. p (sym q))).kept i i }) p
          e.handles.mode e.handles.next e.handles.may e.free
    ]

    pub redeliver_node : (j b : ℕ) → j < s.nodes → b < s.blocks → AtNode plan.words s (g2.locals j) j b
    redeliver_node j b lj lb = elim (cases_eq j i) [ inl p ↦ rw p (node_at b lb) | inr p ↦ rw (e.others j p) (k.node j b lj lb) ]

    eligible_left : (b : ℕ) → AllEligible b (g.locals i).deferred → AllEligible b (e.earlier ++ e.later)
    eligible_left b h = AllEligible-without b e.earlier _ e.later (rw e.found at h)

    own_settled : IsSettled (home_at g2 e.message.block (s.home e.message.block)).state →
        AllEligible e.message.block (g2.locals (s.home e.message.block)).deferred
    own_settled st =
        rw o.deferred (settled_own plan s.nodes (s.home e.message.block)
        (home_at g e.message.block (s.home e.message.block)) e.message o.effect _ o.does
        (λ z. eligible_left e.message.block (rw is_home (k.settled e.message.block e.in_shape z))) (rw o.here at st))

    pub redeliver_settled : (b : ℕ) → b < s.blocks → IsSettled (home_at g2 b (s.home b)).state →
        AllEligible b (g2.locals (s.home b)).deferred
    redeliver_settled b lb =
        elim (cases_eq (s.home b) i) [
          | inl q ↦ here q (cases_eq b e.message.block)
          | inr d ↦
              (λ st. rw (e.others (s.home b) d)
              (k.settled b lb (subst (λ z. IsSettled (z.blocks b).state) (e.others (s.home b) d) st)))
        ]
      where
        here : s.home b ≡ i → (b ≡ e.message.block) ⊎ (b ≢ e.message.block) → IsSettled (home_at g2 b (s.home b)).state →
            AllEligible b (g2.locals (s.home b)).deferred
        here q (inr p) st =
            rw (q, e.handles.deferred) (settled_frame b e.handles.effect e.message _ (λ r. p (sym r))
            (let f : IsSettled (home_at g b i).state → AllEligible b (g.locals i).deferred = rw q at
            (k.settled b lb) in eligible_left b
            (f (let z : IsSettled (home_at g2 b i).state = rw q at st in rw (e.handles.others b p) at z))))
        here q (inl p) st = rw p (own_settled (rw p at st))

    pub redeliver_keeps : Coherent plan.words s flat g2
    redeliver_keeps = record {
      homes = k.homes;
      block = redeliver_block;
      elsewhere = redeliver_elsewhere;
      node = redeliver_node;
      settled = redeliver_settled;
      sent = redeliver_sent;
    }
