-- Each step of the sketch pays for itself: over all blocks.
use Rattle.std.proofs.Common.{◌≡◌, ◌≢◌, ℕ, ◌+◌, ◌-◌, ◌*◌, ◌<◌, ◌≤◌, Bool, true, false, List, ◌++◌, length, arith, refl, sym, ap}
use Rattle.std.proofs.Common.{◌∙◌, inl, inr, ◌⊎◌}
use Rattle.std.proofs.lemmas.Bool.{cases_eq}
use Rattle.tw_base.specs.Lists.{how_many}
use Rattle.tw_base.specs.declared.message.Chan.{Chan}
use Rattle.tw_base.specs.declared.message.Chan.TheVariants.{Zero, One}
use Rattle.dsm_runs.specs.declared.mode.Mode.TheVariants.{Blocked}
use Rattle.block_spots.specs.Cases.{RdFault, WrFault, GetRo, GetRw}
use Rattle.block_spots.specs.Notes.{Note, note, notes, kept_notes}
use Rattle.block_spots.specs.Sketches.{Completes, DDeliver, DFault, DRedeliver, DStay, DWrite, Deed, Delivers, Faults, Handles}
use Rattle.block_spots.specs.Sketches.{Layout, Redelivers, Sketch, Step, fault, fault_kind, home_at, spot_at}
use Rattle.block_spots.proofs.Sums.{sum_below_one, sum_below_same}
use Rattle.coherence_frame.specs.Coherent.{Coherent}
use Rattle.coherence_frame.specs.Weights.{price, rest_weight, weigh}
use Rattle.coherence_frame.proofs.Frame.{SameBlock, delivers_frame, faults_frame, redelivers_frame}
use Rattle.coherence_frame.proofs.Kept.{step_keeps, flat_after}
use Rattle.coherence_frame.proofs.Loads.{load, takes_ask, takes_down, takes_kept, takes_up, total}
use Rattle.coherence_frame.proofs.Stales.{stale_handled_other, stale_in, stale_taken}
use Rattle.coherence_frame.proofs.Weights.{as_total, left, left_of, unsent, unsent_of, weight_of}
use Rattle.coherence_frame.proofs.Deeds.{faults_of, handlers_of, sends_of}
use Rattle.coherence_frame.proofs.Pays.{Costs, cache_faulted, cache_took, home_faulted, home_took}
use Rattle.coherence_frame.proofs.Rows.{Plan}
use Rattle.coherence_frame.proofs.Deliveries as come
use Rattle.coherence_frame.proofs.Redeliveries as again

-- ---- a block that a step is not about

pub record SameCounts (s : Layout) (g g2 : Sketch) (b : ℕ) : Type 0 where
  pub rest : (home_at g2 b (s.home b)).rest ≡ (home_at g b (s.home b)).rest
  pub notes : (f t : ℕ) (c : Chan) → notes b (g2.wires f t c) ≡ notes b (g.wires f t c)
  pub kept : (j : ℕ) → kept_notes b j (g2.locals (s.home b)).deferred ≡ kept_notes b j (g.locals (s.home b)).deferred
  pub stale : stale_in b (g2.locals (s.home b)).deferred ≡ stale_in b (g.locals (s.home b)).deferred

weight_same : (f : Note → ℕ) (s : Layout) (g g2 : Sketch) (b : ℕ) → SameCounts s g g2 b → weight_of f s g2 b ≡ weight_of f s g b
weight_same f s g g2 b c = as_total f s g2 b ∙ sum_below_same s.nodes _ _ (λ j l. one j) ∙ sym (as_total f s g b)
  where
    one : (j : ℕ) → load f b (s.home b) g2.wires (g2.locals (s.home b)).deferred j
        ≡ load f b (s.home b) g.wires (g.locals (s.home b)).deferred j
    one j = omega (
      arith,
      ap (how_many f) (c.notes j (s.home b) Zero),
      ap (how_many f) (c.kept j),
      ap (how_many f) (c.notes (s.home b) j One),
      ap (how_many f) (c.notes j (s.home b) One),
    )

pub left_same : (s : Layout) (g g2 : Sketch) (b : ℕ) → SameCounts s g g2 b → left_of s g2 b ≡ left_of s g b
left_same s g g2 b c = omega (arith, weight_same (weigh s.nodes) s g g2 b c, ap (rest_weight s.nodes) c.rest, c.stale)

pub unsent_same : (s : Layout) (g g2 : Sketch) (b : ℕ) → SameCounts s g g2 b → unsent_of s g2 b ≡ unsent_of s g b
unsent_same s g g2 b c = omega (arith, weight_same (price s.nodes) s g g2 b c, ap (rest_weight 1) c.rest)

same_counts : (s : Layout) (g g2 : Sketch) (b : ℕ) → SameBlock g g2 b →
    stale_in b (g2.locals (s.home b)).deferred ≡ stale_in b (g.locals (s.home b)).deferred → SameCounts s g g2 b
same_counts s g g2 b f e = record {
  rest = ap (λ z. z.rest) (f.blocks (s.home b));
  notes = f.notes;
  kept = λ j. f.kept (s.home b) j;
  stale = e;
}

-- ---- from the block to all

pub spread : (s : Layout) (g g2 : Sketch) (b hk fk sn : ℕ) → b < s.blocks →
    Costs s.nodes hk fk sn (left_of s g b) (left_of s g2 b) (unsent_of s g b) (unsent_of s g2 b) →
    ((x : ℕ) → x ≢ b → SameCounts s g g2 x) → Costs s.nodes hk fk sn (left s g) (left s g2) (unsent s g) (unsent s g2)
spread s g g2 b hk fk sn l c same = record {
  handlers = plus hk (left_of s g b) (left_of s g2 b) (left s g) (left s g2) ((3 * s.nodes - 1) * fk) c.handlers
      (sum_below_one s.blocks (left_of s g2) (left_of s g) b l (λ x k d. left_same s g g2 x (same x d)));
  sends = plus sn (unsent_of s g b) (unsent_of s g2 b) (unsent s g) (unsent s g2) (2 * s.nodes * fk) c.sends
      (sum_below_one s.blocks (unsent_of s g2) (unsent_of s g) b l (λ x k d. unsent_same s g g2 x (same x d)));
}
  where
    plus : (a p p2 t t2 z : ℕ) → a + p2 ≤ p + z → t2 + p ≡ t + p2 → a + t2 ≤ t + z
    plus a p p2 t t2 z u v = omega arith

pub none : (s : Layout) (g g2 : Sketch) → ((x : ℕ) → SameCounts s g g2 x) →
    Costs s.nodes 0 0 0 (left s g) (left s g2) (unsent s g) (unsent s g2)
none s g g2 same = record {
  handlers =
      plus (left s g) (left s g2) _ (sum_below_same s.blocks (left_of s g2) (left_of s g) (λ x k. left_same s g g2 x (same x)));
  sends = plus (unsent s g) (unsent s g2) _ (sum_below_same s.blocks (unsent_of s g2) (unsent_of s g)
      (λ x k. unsent_same s g g2 x (same x)));
}
  where
    plus : (p p2 z : ℕ) → p2 ≡ p → 0 + p2 ≤ p + z
    plus p p2 z e = omega arith

-- ---- a fault

fault_is : (store : Bool) → (fault_kind store ≡ RdFault) ⊎ (fault_kind store ≡ WrFault)
fault_is true = inr refl
fault_is false = inl refl

fault_no_get : (store : Bool) → (fault_kind store ≢ GetRo) × (fault_kind store ≢ GetRw)
fault_no_get true = ((λ y. (let z : WrFault ≡ GetRo = y in cc)), (λ y. (let z : WrFault ≡ GetRw = y in cc)))
fault_no_get false = ((λ y. (let z : RdFault ≡ GetRo = y in cc)), (λ y. (let z : RdFault ≡ GetRw = y in cc)))

-- ---- an instruction that completes

pub complete_costs : (s : Layout) (g : Sketch) (i : ℕ) (g2 : Sketch) → Completes s g i g2 →
    ((b : ℕ) → ((g2.locals i).blocks b).rest ≡ ((g.locals i).blocks b).rest) →
    Costs s.nodes 0 0 0 (left s g) (left s g2) (unsent s g) (unsent s g2)
complete_costs s g i g2 c rest = none s g g2 (λ x. record {
  rest = elim (cases_eq (s.home x) i) [ inl q ↦ rw q (rest x) | inr d ↦ ap (λ z. (z.blocks x).rest) (c.others (s.home x) d) ];
  notes = λ f t y. ap (notes x) (c.wires f t y);
  kept = λ j. ap (kept_notes x j) (deferred x);
  stale = ap (stale_in x) (deferred x);
})
  where
    deferred : (x : ℕ) → (g2.locals (s.home x)).deferred ≡ (g.locals (s.home x)).deferred
    deferred x = elim (cases_eq (s.home x) i) [ inl q ↦ rw q c.deferred | inr d ↦ ap (λ z. z.deferred) (c.others (s.home x) d) ]

module _ (plan : Plan) where
  -- ---- a delivery

  module _ (s : Layout) (flat : ℕ → List ℕ) (g : Sketch) (i f : ℕ) (c : Chan) (g2 : Sketch)
      (e : Delivers plan.table s g i f c g2) (k : Coherent plan.words s flat g) where
    after : Coherent plan.words s (flat_after (DDeliver i f c) flat) g2
    after = step_keeps plan s flat g (DDeliver i f c) g2 e k

    from : e.message.from < s.nodes
    from = rw (come.sender plan s flat g i f c g2 e k) e.from_node

    deliver_home : i ≡ s.home e.message.block →
        (o : Handles plan.table s.nodes (s.home e.message.block) i e.message (g.locals i) e.between (g2.locals i) g2.wires) →
        Costs s.nodes 1 0 (length o.effect.sends) (left_of s g e.message.block) (left_of s g2 e.message.block)
        (unsent_of s g e.message.block) (unsent_of s g2 e.message.block)
    deliver_home q =
        rw q (λ o. home_took plan s flat g g2 e.message e.in_shape (g.locals (s.home e.message.block)) e.between k o refl from (
          (λ _ p. come.to_home plan s flat g i f c g2 e k q (sym (come.sender plan s flat g i f c g2 e k) ∙ p)),
          (λ _ p. come.to_home plan s flat g i f c g2 e k q (sym (come.sender plan s flat g i f c g2 e k) ∙ p)),
        )
        refl (before c refl) (after.elsewhere e.message.block e.in_shape))
      where
        before : (x : Chan) → c ≡ x → (w : Note → ℕ) → weight_of w s g e.message.block
            ≡ total w e.message.block (s.home e.message.block) s.nodes e.between
            (g.locals (s.home e.message.block)).deferred + w (note e.message)
        before Zero p w = as_total w s g e.message.block ∙ takes_ask w (s.home e.message.block) s.nodes f
            (g.locals (s.home e.message.block)).deferred e.message g.wires e.between e.from_node (rw (q, p) at e.takes)
        before One p w = as_total w s g e.message.block ∙ takes_up w (s.home e.message.block) s.nodes f
            (g.locals (s.home e.message.block)).deferred e.message g.wires e.between e.from_node
            (come.to_home plan s flat g i f c g2 e k q) (rw (q, p) at e.takes)

    deliver_cache : i ≢ s.home e.message.block → Costs s.nodes 1 0 (length e.handles.effect.sends)
        (left_of s g e.message.block) (left_of s g2 e.message.block) (unsent_of s g e.message.block)
        (unsent_of s g2 e.message.block)
    deliver_cache d = cache_took plan s flat g g2 i e.message e.in_shape e.at_node d
        (g.locals i) e.between k e.handles e.others (come.at_cache_spot plan s flat g i f c g2 e k e.message.block e.in_shape
        d).0
        (λ _ _. come.sender plan s flat g i f c g2 e k ∙ (come.down_wire plan s flat g i f c g2 e k d).0)
        (λ w. as_total w s g e.message.block ∙ takes_down w (s.home e.message.block) s.nodes i
        (g.locals (s.home e.message.block)).deferred e.message g.wires e.between e.at_node d
        (come.takes_down plan s flat g i f c g2 e k d))
        (come.not_fault_down plan s flat g i f c g2 e k d).0 (come.not_fault_down plan s flat g i f c g2 e k d).1
        (after.elsewhere e.message.block e.in_shape)

    pub deliver_costs : Costs s.nodes 1 0 (length e.handles.effect.sends) (left s g) (left s g2) (unsent s g) (unsent s g2)
    deliver_costs = spread s g g2 e.message.block 1 0 _ e.in_shape
        (elim (cases_eq i (s.home e.message.block)) [ inl q ↦ deliver_home q e.handles | inr d ↦ deliver_cache d ]) other
      where
        stale : (x : ℕ) → x ≢ e.message.block → stale_in x (g2.locals (s.home x)).deferred
            ≡ stale_in x (g.locals (s.home x)).deferred
        stale x d = elim (cases_eq (s.home x) i) [
          | inl q ↦ rw (q, e.handles.deferred) (stale_handled_other x e.handles.effect.freed e.handles.effect.kept e.message
              (g.locals i).deferred (λ r. d (sym r)))
          | inr j ↦ ap (λ z. stale_in x z.deferred) (e.others (s.home x) j)
        ]

        other : (x : ℕ) → x ≢ e.message.block → SameCounts s g g2 x
        other x d = same_counts s g g2 x (delivers_frame plan s g i f c g2 e x (λ r. d (sym r))) (stale x d)

  -- ---- a redelivery

  module _ (s : Layout) (flat : ℕ → List ℕ) (g : Sketch) (i : ℕ) (g2 : Sketch) (e : Redelivers plan.table s g i g2)
      (k : Coherent plan.words s flat g) where
    again_after : Coherent plan.words s (flat_after (DRedeliver i) flat) g2
    again_after = step_keeps plan s flat g (DRedeliver i) g2 e k

    own_kinds : e.message.from ≡ s.home e.message.block → (e.message.kind ≢ GetRo) × (e.message.kind ≢ GetRw)
    own_kinds p = go (again.lone plan s flat g i g2 e k p).kind
      where
        go : (e.message.kind ≡ RdFault) ⊎ (e.message.kind ≡ WrFault) → (e.message.kind ≢ GetRo) × (e.message.kind ≢ GetRw)
        go (inl x) = ((λ y. (let z : RdFault ≡ GetRo = sym x ∙ y in cc)), (λ y. (let z : RdFault ≡ GetRw = sym x ∙ y in cc)))
        go (inr x) = ((λ y. (let z : WrFault ≡ GetRo = sym x ∙ y in cc)), (λ y. (let z : WrFault ≡ GetRw = sym x ∙ y in cc)))

    redeliver_home : (o : Handles plan.table s.nodes (s.home e.message.block) i e.message
        (record (g.locals i) { deferred = e.earlier ++ e.later }) g.wires (g2.locals i) g2.wires) →
        Costs s.nodes 1 0 (length o.effect.sends) (left_of s g e.message.block) (left_of s g2 e.message.block)
        (unsent_of s g e.message.block) (unsent_of s g2 e.message.block)
    redeliver_home = rw (again.is_home plan s flat g i g2 e k)
        (λ o. home_took plan s flat g g2 e.message e.in_shape
        (record (g.locals (s.home e.message.block)) { deferred = e.earlier ++ e.later }) g.wires k o refl
        (again.from_node plan s flat g i g2 e k)
        ((λ y p. (own_kinds p).0 y), (λ y p. (own_kinds p).1 y))
        (ap (stale_in e.message.block) (again.found plan s flat g i g2 e k)
        ∙ stale_taken e.message.block e.message e.earlier e.later)
        (λ w. as_total w s g e.message.block ∙ ap (total w e.message.block (s.home e.message.block) s.nodes g.wires)
        (again.found plan s flat g i g2 e k)
        ∙ takes_kept w e.message.block (s.home e.message.block) s.nodes g.wires
        (record { message = e.message; eligible = true }) e.earlier e.later refl (again.from_node plan s flat g i g2 e k))
        (again_after.elsewhere e.message.block e.in_shape))

    pub redeliver_costs : Costs s.nodes 1 0 (length e.handles.effect.sends) (left s g) (left s g2) (unsent s g) (unsent s g2)
    redeliver_costs = spread s g g2 e.message.block 1 0 _ e.in_shape (redeliver_home e.handles) other2
      where
        stale2 : (x : ℕ) → x ≢ e.message.block → stale_in x (g2.locals (s.home x)).deferred
            ≡ stale_in x (g.locals (s.home x)).deferred
        stale2 x d = elim (cases_eq (s.home x) i) [
          | inl q ↦ rw (q, e.handles.deferred, e.found) (stale_handled_other x e.handles.effect.freed e.handles.effect.kept
              e.message (e.earlier ++ e.later) (λ r. d (sym r)) ∙ sym (stale_taken x e.message e.earlier e.later))
          | inr j ↦ ap (λ z. stale_in x z.deferred) (e.others (s.home x) j)
        ]

        other2 : (x : ℕ) → x ≢ e.message.block → SameCounts s g g2 x
        other2 x d = same_counts s g g2 x (redelivers_frame plan s g i g2 e x (λ r. d (sym r))) (stale2 x d)

  module _ (s : Layout) (flat : ℕ → List ℕ) (g : Sketch) (i : ℕ) (store : Bool) (b : ℕ) (g2 : Sketch)
      (e : Faults plan.table s g i store b g2) (k : Coherent plan.words s flat g) where
    fault_home : i ≡ s.home b →
        (o : Handles plan.table s.nodes (s.home b) i (fault store b i) (record (g.locals i) { mode = Blocked b }) g.wires
        (g2.locals i) g2.wires) →
        Costs s.nodes 0 1 (length o.effect.sends) (left_of s g b) (left_of s g2 b) (unsent_of s g b) (unsent_of s g2 b)
    fault_home q =
        rw q (λ o. home_faulted plan s flat g g2 (fault store b (s.home b)) e.in_shape
        (record (g.locals (s.home b)) { mode = Blocked b }) g.wires k o refl (k.homes b)
        ((λ y. absurd ((fault_no_get store).0 y)), (λ y. absurd ((fault_no_get store).1 y))) refl (λ w. as_total w s g b)
        (fault_is store))

    fault_cache : i ≢ s.home b → Costs s.nodes 0 1 (length e.handles.effect.sends) (left_of s g b) (left_of s g2 b)
        (unsent_of s g b) (unsent_of s g2 b)
    unfolding spot_at
    fault_cache d = cache_faulted plan s flat g g2 i (fault store b i) e.in_shape e.at_node d
        (record (g.locals i) { mode = Blocked b }) g.wires k e.handles e.others
        ((k.block b e.in_shape).caches i e.at_node d).state
        (go (fault_is store)) (λ w. as_total w s g b) (fault_is store)
      where
        go : (fault_kind store ≡ RdFault) ⊎ (fault_kind store ≡ WrFault) → fault_kind store ≢ RdFault →
            fault_kind store ≢ WrFault → i ≡ s.home b
        go (inl y) u v = absurd (u y)
        go (inr y) u v = absurd (v y)

    pub fault_costs : Costs s.nodes 0 1 (length e.handles.effect.sends) (left s g) (left s g2) (unsent s g) (unsent s g2)
    fault_costs =
        spread s g g2 b 0 1 _ e.in_shape (elim (cases_eq i (s.home b))
        [ inl q ↦ fault_home q e.handles | inr d ↦ fault_cache d ]) other3
      where
        stale3 : (x : ℕ) → x ≢ b → stale_in x (g2.locals (s.home x)).deferred ≡ stale_in x (g.locals (s.home x)).deferred
        stale3 x d = elim (cases_eq (s.home x) i) [
          | inl q ↦ rw (q, e.handles.deferred) (stale_handled_other x e.handles.effect.freed e.handles.effect.kept
              (fault store b i) (g.locals i).deferred (λ r. d (sym r)))
          | inr j ↦ ap (λ z. stale_in x z.deferred) (e.others (s.home x) j)
        ]

        other3 : (x : ℕ) → x ≢ b → SameCounts s g g2 x
        other3 x d = same_counts s g g2 x (faults_frame plan s g i store b g2 e x (λ r. d (sym r))) (stale3 x d)

  -- ---- every step

  pub step_costs : (s : Layout) (flat : ℕ → List ℕ) (g : Sketch) (d : Deed) (g2 : Sketch) (r : Step plan.table s g d g2) →
      Coherent plan.words s flat g →
      Costs s.nodes (handlers_of d) (faults_of d) (sends_of plan s g d g2 r) (left s g) (left s g2) (unsent s g) (unsent s g2)
  step_costs s flat g (DDeliver i f c) g2 r k = deliver_costs s flat g i f c g2 r k
  step_costs s flat g (DRedeliver i) g2 r k = redeliver_costs s flat g i g2 r k
  step_costs s flat g (DFault i store b) g2 r k = fault_costs s flat g i store b g2 r k
  step_costs s flat g (DStay i) g2 r k = complete_costs s g i g2 r.completes (λ b. ap (λ z. z.rest) (r.blocks b))
  step_costs s flat g (DWrite i b ws) g2 r k = complete_costs s g i g2 r.completes rest
    where
      rest : (x : ℕ) → ((g2.locals i).blocks x).rest ≡ ((g.locals i).blocks x).rest
      rest x = elim (cases_eq x b) [ inl p ↦ rw p (ap (λ z. z.rest) r.here) | inr p ↦ ap (λ z. z.rest) (r.blocks x p) ]
