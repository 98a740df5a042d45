-- An instruction event keeps coherence.
use Rattle.coherence_frame.proofs.Rows.{IsOrder, Plan}
use Rattle.coherence_frame.proofs.Nodes.{FaultOf, node_frame, node_home_own}
use Rattle.std.proofs.Common.{Bool, true, false, ◌≡◌, ◌≢◌, ℕ, ◌<◌, ◌≤◌, List, [], ◌++◌, arith, refl, sym, ap, subst, ◌∙◌, inl}
use Rattle.std.proofs.Common.{inr, ◌⊎◌}
use Rattle.std.proofs.lemmas.Bool.{cases_eq, cases_lt}
use Rattle.block_spots.specs.Cases.{RdFault, WrFault, HomeRw, CacheWaitRo, CacheWaitRw}
use Rattle.block_spots.specs.Notes.{note, notes, kept_notes, held_home, is_rd_fault, is_wr_fault}
use Rattle.block_spots.specs.Sketches.{IsPlain, needs, fault_kind, Local, Sketch, Handles, OnlyAt, Layout, Faults, Completes}
use Rattle.block_spots.specs.Sketches.{Next, Loads, Stores, fault, spot_at, home_at}
use Rattle.block_tags.specs.Copies.{permits}
use Rattle.dsm_runs.specs.Locals.{IsReady}
use Rattle.dsm_runs.specs.declared.mode.Mode.{Mode}
use Rattle.dsm_runs.specs.declared.mode.Mode.TheVariants.{Woken, Blocked}
use Rattle.tw_base.specs.Lists.{how_many}
use Rattle.tw_base.specs.declared.message.Chan.{Chan}
use Rattle.tw_base.specs.declared.message.Chan.TheVariants.{Zero, One}
use Rattle.tw_base.specs.declared.value.Tag.{Tag}
use Rattle.tw_base.specs.declared.value.Tag.TheVariants.{Invalid, ReadOnly, ReadWrite}
use Rattle.coherence_frame.specs.Words.{allows_store, Elsewhere, AllEligible, IsSettled, AllSentBy, IsCacheState, own_rd}
use Rattle.coherence_frame.specs.Words.{own_wr, tag_of}
use Rattle.coherence_frame.specs.Coherent.{AtHome, AtBlock, AtNode, Coherent}
use Rattle.coherence_frame.proofs.Frame.{SameBlock, faults_frame}
use Rattle.coherence_frame.proofs.Counts.{no_faults}
use Rattle.coherence_frame.proofs.Events.{kept_from_sender}
use Rattle.coherence_frame.proofs.AtHomes.{own_fault}
use Rattle.coherence_frame.proofs.AtCaches.{cache_faults, cache_turn}
use Rattle.coherence_frame.proofs.Turning.{OwnSame, kept_if}
use Rattle.coherence_frame.proofs.Elsewheres.{cache_elsewhere, home_elsewhere, settled_frame, settled_own, AllSentBy-append}
use Rattle.coherence_frame.proofs.Elsewheres.{AllSentBy-on_wire}
use Rattle.coherence_frame.proofs.Deliveries.{block_frame, elsewhere_frame}

pub may_store : (t : Tag) → allows_store t → t ≡ ReadWrite
may_store Invalid h = absurd cc
may_store ReadOnly h = absurd cc
may_store ReadWrite h = refl

-- a node that is ready waits for nothing
pub record Idle (s : Layout) (l : Local) (i b : ℕ) : Type 0 where
  pub ro : i ≢ s.home b → (l.blocks b).state ≢ CacheWaitRo
  pub write : i ≢ s.home b → (l.blocks b).state ≢ CacheWaitRw
  pub rd : i ≡ s.home b → own_rd l i b < 1
  pub wr : i ≡ s.home b → own_wr l i b < 1
  pub held : i ≡ s.home b → held_home (l.blocks b).rest < 1

pub ready_unblocked : (x : Mode) (b : ℕ) → IsReady x → x ≢ Blocked b
ready_unblocked x b h e = grind arith

fault_of : (store : Bool) (b : ℕ) (x : Next) → x ≡ needs store b → FaultOf b (fault_kind store) x
fault_of true b x e = inr (refl, e)
fault_of false b x e = inl (refl, e)

refuses : (t : Tag) (store : Bool) → permits t store ≡ false → t ≢ ReadWrite
refuses t store e q = let z : permits ReadWrite store ≡ false = subst (λ y. permits y store ≡ false) q e in cc

module _ (plan : Plan) where
  pub idle : (s : Layout) (l : Local) (i b : ℕ) → IsReady l.mode → AtNode plan.words s l i b → Idle s l i b
  idle s l i b r a = record {
    ro = λ d e. ready_unblocked _ b r (a.waits_ro d e).0;
    write = λ d e. ready_unblocked _ b r (a.waits_rw d e).0;
    rd = λ q. small (own_rd l i b) (λ z. ready_unblocked _ b r (a.rd q z).0);
    wr = λ q. small (own_wr l i b) (λ z. ready_unblocked _ b r (a.wr q z).0);
    held = λ q. small (held_home (l.blocks b).rest) (λ z. ready_unblocked _ b r (a.held q z).0);
  }
    where
      small : (k : ℕ) → (1 ≤ k → ⊥) → k < 1
      small k h = elim (cases_lt k 1) [ inl x ↦ x | inr x ↦ absurd (h x) ]

  -- a node that waits for nothing, and is neither blocked nor woken
  pub at_rest : (s : Layout) (l : Local) (i b : ℕ) → Idle s l i b → IsPlain l.mode → AtNode plan.words s l i b
  at_rest s l i b a m = record {
    waits_ro = λ d e. absurd (a.ro d e);
    waits_rw = λ d e. absurd (a.write d e);
    blocked = λ d e. absurd (not_blocked m e);
    rd = λ q e. absurd (let z : own_rd l i b < 1 = a.rd q in omega arith);
    wr = λ q e. absurd (let z : own_wr l i b < 1 = a.wr q in omega arith);
    held = λ q e. absurd (let z : held_home (l.blocks b).rest < 1 = a.held q in omega arith);
    blocked_home = λ q e. absurd (not_blocked m e);
    woken_loads = λ x y z. absurd (not_woken m x);
    woken_stores = λ x y z. absurd (not_woken m x);
  }
    where
      not_blocked : IsPlain l.mode → l.mode ≡ Blocked b → ⊥
      not_blocked m e = rw e at m

      not_woken : IsPlain l.mode → l.mode ≡ Woken → ⊥
      not_woken m e = rw e at m

  -- nothing of any block moves
  module _ (s : Layout) (flat : ℕ → List ℕ) (g : Sketch) (i : ℕ) (g2 : Sketch) (c : Completes s g i g2)
      (k : Coherent plan.words s flat g) where
    li : i < s.nodes
    li = c.at_node

    ready : IsReady (g.locals i).mode
    ready = c.ready

    pub same_kept : (b n j : ℕ) → kept_notes b j (g2.locals n).deferred ≡ kept_notes b j (g.locals n).deferred
    same_kept b n j =
        elim (cases_eq n i) [
          | inl p ↦ rw p (ap (kept_notes b j) c.deferred)
          | inr p ↦ ap (λ z. kept_notes b j z.deferred)
              (c.others n p)
        ]

    pub same_block : (b : ℕ) → (g2.locals i).blocks b ≡ (g.locals i).blocks b → SameBlock g g2 b
    same_block b e = record {
      blocks = λ n. elim (cases_eq n i) [ inl p ↦ rw p e | inr p ↦ ap (λ z. z.blocks b) (c.others n p) ];
      kept = same_kept b;
      notes = λ f t x. ap (notes b) (c.wires f t x);
    }

    pub completes_elsewhere : (b : ℕ) → b < s.blocks → Elsewhere s g2 b
    completes_elsewhere b lb = let el = k.elsewhere b lb in record {
      between = λ f t x fl tl u v. ap (notes b) (c.wires f t x) ∙ el.between f t x fl tl u v;
      from_home = λ t tl u. ap (notes b) (c.wires _ t Zero) ∙ el.from_home t tl u;
      deferred = λ n j nl u. same_kept b n j ∙ el.deferred n j nl u;
      strangers = λ j u. same_kept b _ j ∙ el.strangers j u;
    }

    pub completes_sent : (f t : ℕ) (x : Chan) → AllSentBy f (g2.wires f t x)
    completes_sent f t x = rw (c.wires f t x) (k.sent f t x)

    -- of a block's state and rest at node i nothing changes
    pub completes_node : (b : ℕ) → b < s.blocks → ((g2.locals i).blocks b).state ≡ ((g.locals i).blocks b).state →
        ((g2.locals i).blocks b).rest ≡ ((g.locals i).blocks b).rest → AtNode plan.words s (g2.locals i) i b
    completes_node b lb st rs = at_rest s (g2.locals i) i b (record {
      ro = λ d e. was.ro d (sym st ∙ e);
      write = λ d e. was.write d (sym st ∙ e);
      rd = λ q. (let z : own_rd (g.locals i) i b < 1 = was.rd q in omega (arith, ap (how_many is_rd_fault) (same_kept b i i)));
      wr = λ q. (let z : own_wr (g.locals i) i b < 1 = was.wr q in omega (arith, ap (how_many is_wr_fault) (same_kept b i i)));
      held = λ q. (let z : held_home ((g.locals i).blocks b).rest < 1 = was.held q in omega (arith, ap held_home rs));
    }) c.mode
      where
        was : Idle s (g.locals i) i b
        was = idle s (g.locals i) i b ready (k.node i b li lb)

    pub completes_settled : (b : ℕ) → b < s.blocks → (home_at g2 b (s.home b)).state ≡ (home_at g b (s.home b)).state →
        IsSettled (home_at g2 b (s.home b)).state → AllEligible b (g2.locals (s.home b)).deferred
    completes_settled b lb e st = elim (cases_eq (s.home b) i) [
      | inl p ↦ rw (p, c.deferred) (rw p at (k.settled b lb (subst (λ z. IsSettled z) e st)))
      | inr p ↦ rw (c.others (s.home b) p) (k.settled b lb (subst (λ z. IsSettled z) e st))
    ]

    -- the blocks stay: a load, or an instruction that needs no memory
    pub stays_keeps : ((b : ℕ) → (g2.locals i).blocks b ≡ (g.locals i).blocks b) → Coherent plan.words s flat g2
    stays_keeps same = record {
      homes = k.homes;
      block = λ b lb. block_frame plan s.nodes (s.home b) (flat b) g g2 b (same_block b (same b)) (k.block b lb);
      elsewhere = completes_elsewhere;
      node = λ j b lj lb. elim (cases_eq j i) [
        | inl p ↦ rw p
            (completes_node b lb (ap (λ z. z.state) (same b)) (ap (λ z. z.rest) (same b)))
        | inr p ↦ rw (c.others j p)
            (k.node j b lj lb)
      ];
      settled = λ b lb. completes_settled b lb (ap (λ z. z.state) ((same_block b (same b)).blocks (s.home b)));
      sent = completes_sent;
    }

    -- a store changes the words of b at node i
    module _ (b : ℕ) (lb : b < s.blocks) (vs : List ℕ) (allowed : allows_store ((g.locals i).blocks b).tag)
        (here : (g2.locals i).blocks b ≡ record ((g.locals i).blocks b) { words = vs })
        (past : (x : ℕ) → x ≢ b → (g2.locals i).blocks x ≡ (g.locals i).blocks x)
        (flat2 : ℕ → List ℕ) (flat_here : flat2 b ≡ vs) (flat_past : (x : ℕ) → x ≢ b → flat2 x ≡ flat x) where
      spot_past : (j : ℕ) → j ≢ i → spot_at g2 b (s.home b) j ≡ spot_at g b (s.home b) j
      unfolding spot_at
      spot_past j d = simp (c.others j d, same_kept b, c.wires)

      spot_here : spot_at g2 b (s.home b) i ≡ record (spot_at g b (s.home b) i) { words = vs }
      unfolding spot_at
      spot_here = simp (here, same_kept b, c.wires)

      tag_here : (spot_at g b (s.home b) i).tag ≡ ReadWrite
      unfolding spot_at
      tag_here = may_store _ allowed

      own_same : OwnSame (spot_at g b (s.home b) (s.home b)) (spot_at g2 b (s.home b) (s.home b))
      unfolding spot_at
      own_same = record {
        ask = ap (notes b) (c.wires _ _ Zero);
        kept = same_kept b _ _;
        down = ap (notes b) (c.wires _ _ One);
        up = ap (notes b) (c.wires _ _ One);
      }

      stored_block : AtBlock plan.words s.nodes (s.home b) vs (home_at g2 b (s.home b)) (spot_at g2 b (s.home b))
      stored_block = elim (cases_eq i (s.home b)) [
        | inl q ↦ plan.home.home_store s.nodes (s.home b) (flat b) (home_at g b (s.home b)) _ (spot_at g b (s.home b)) _
            (k.block b lb) vs (rw q at (may_store _ allowed)) (rw q at here) (λ j d. spot_past j (λ r. d (r ∙ q))) own_same
        | inr d ↦ (let home : home_at g2 b (s.home b) ≡ home_at g b (s.home b) = ap (λ z. z.blocks b)
            (c.others (s.home b) (λ q. d (sym q))) in
            rw home (cache_turn plan s.nodes (s.home b) (flat b) (home_at g b (s.home b)) (spot_at g b (s.home b))
            (spot_at g2 b (s.home b)) (k.block b lb) vs i li d spot_past
            (plan.cache.store_at_owner s.nodes (s.home b) (home_at g b (s.home b)) i (spot_at g b (s.home b) i)
            (spot_at g2 b (s.home b) i) [] ((k.block b lb).caches i li d) vs tag_here spot_here)
            (plan.says.stored_words s.nodes (s.home b) (home_at g b (s.home b)) i (spot_at g b (s.home b) i)
            (spot_at g2 b (s.home b)) vs ((k.block b lb).caches i li d) tag_here spot_here)))
      ]

      pub store_keeps : Coherent plan.words s flat2 g2
      store_keeps = record {
        homes = k.homes;
        block = λ x lx. elim (cases_eq x b) [
          | inl p ↦ rw (p, flat_here) stored_block
          | inr p ↦ rw (flat_past x p)
              (block_frame plan s.nodes (s.home x) (flat x) g g2 x (same_block x (past x p)) (k.block x lx))
        ];
        elsewhere = completes_elsewhere;
        node = λ j x lj lx. elim (cases_eq j i) [
          | inl p ↦ rw p (completes_node x lx (state_of x) (rest_of x))
          | inr p ↦ rw
              (c.others j p) (k.node j x lj lx)
        ];
        settled = λ x lx. completes_settled x lx (home_state x);
        sent = completes_sent;
      }
        where
          state_of : (x : ℕ) → ((g2.locals i).blocks x).state ≡ ((g.locals i).blocks x).state
          state_of x = elim (cases_eq x b) [ inl p ↦ rw p (ap (λ z. z.state) here) | inr p ↦ ap (λ z. z.state) (past x p) ]

          rest_of : (x : ℕ) → ((g2.locals i).blocks x).rest ≡ ((g.locals i).blocks x).rest
          rest_of x = elim (cases_eq x b) [ inl p ↦ rw p (ap (λ z. z.rest) here) | inr p ↦ ap (λ z. z.rest) (past x p) ]

          home_state : (x : ℕ) → (home_at g2 x (s.home x)).state ≡ (home_at g x (s.home x)).state
          home_state x =
              elim (cases_eq (s.home x) i) [
                | inl p ↦ rw p (state_of x)
                | inr p ↦ ap (λ z. (z.blocks x).state)
                    (c.others (s.home x) p)
              ]

  -- a node that waits for nothing of b, and is blocked on another block
  pub at_other : (s : Layout) (l : Local) (i b c : ℕ) → Idle s l i b → l.mode ≡ Blocked c → c ≢ b → AtNode plan.words s l i b
  at_other s l i b c a m d = record {
    waits_ro = λ x e. absurd (a.ro x e);
    waits_rw = λ x e. absurd (a.write x e);
    blocked = λ x e. absurd (not_blocked e);
    rd = λ q e. absurd (let z : own_rd l i b < 1 = a.rd q in omega arith);
    wr = λ q e. absurd (let z : own_wr l i b < 1 = a.wr q in omega arith);
    held = λ q e. absurd (let z : held_home (l.blocks b).rest < 1 = a.held q in omega arith);
    blocked_home = λ q e. absurd (not_blocked e);
    woken_loads = λ x y z. absurd (let f : Blocked c ≡ Woken = sym m ∙ x in cc);
    woken_stores = λ x y z. absurd (let f : Blocked c ≡ Woken = sym m ∙ x in cc);
  }
    where
      not_blocked : l.mode ≡ Blocked b → ⊥
      not_blocked e = d (let f : Blocked c ≡ Blocked b = sym m ∙ e in let z : c ≡ b = cc in z)

  pub kept_zero : (s : Layout) (g : Sketch) (b : ℕ) (at : AtHome plan.words s.nodes (s.home b) (home_at g b (s.home b))
      (spot_at g b (s.home b) (s.home b))) → Idle s (g.locals (s.home b)) (s.home b) b →
      kept_notes b (s.home b) (g.locals (s.home b)).deferred ≡ []
  unfolding spot_at
  kept_zero s g b at a = no_faults (kept_notes b (s.home b) (g.locals (s.home b)).deferred) at.faults
      (omega (arith, a.rd refl, a.wr refl))

  module _ (s : Layout) (flat : ℕ → List ℕ) (g : Sketch) (i : ℕ) (store : Bool) (b : ℕ) (g2 : Sketch)
      (e : Faults plan.table s g i store b g2) (k : Coherent plan.words s flat g) where
    lf : i < s.nodes
    lf = e.at_node

    lb : b < s.blocks
    lb = e.in_shape

    rf : IsReady (g.locals i).mode
    rf = e.ready

    nx : FaultOf b (fault_kind store) (g.locals i).next
    nx = fault_of store b (g.locals i).next e.needed

    no_rw : ((g.locals i).blocks b).tag ≢ ReadWrite
    no_rw = refuses ((g.locals i).blocks b).tag store e.refused

    kind_is : (fault_kind store ≡ RdFault) ⊎ ((fault_kind store) ≡ WrFault)
    kind_is = go nx
      where
        go : FaultOf b (fault_kind store) (g.locals i).next → ((fault_kind store) ≡ RdFault) ⊎ ((fault_kind store) ≡ WrFault)
        go (inl v) = inl v.0
        go (inr v) = inr v.0

    not_order : IsOrder (fault store b i).kind → ⊥
    not_order q = go kind_is
      where
        go : ((fault_kind store) ≡ RdFault) ⊎ ((fault_kind store) ≡ WrFault) → ⊥
        go (inl v) = rw v at q
        go (inr v) = rw v at q

    idle_here : (x : ℕ) → x < s.blocks → Idle s (g.locals i) i x
    idle_here x lx = idle s (g.locals i) i x rf (k.node i x lf lx)

    module _ (q : i ≡ s.home b) where
      o : Handles plan.table s.nodes (s.home b) (s.home b) (fault store b (s.home b))
          (record (g.locals (s.home b)) { mode = Blocked b }) g.wires (g2.locals (s.home b)) g2.wires
      o = rw q at e.handles

      others : OnlyAt (s.home b) g g2
      others = rw q at e.others

      idle_home : Idle s (g.locals (s.home b)) (s.home b) b
      idle_home = rw q at (idle_here b lb)

      none : kept_notes b (s.home b) (g.locals (s.home b)).deferred ≡ []
      none = kept_zero s g b (k.block b lb).at_home idle_home

      unheld : held_home (home_at g b (s.home b)).rest ≡ 0
      unheld = let z : held_home (home_at g b (s.home b)).rest < 1 = idle_home.held refl in omega arith

      not_all : (home_at g b (s.home b)).state ≢ HomeRw
      not_all st = no_rw (rw q ((k.block b lb).at_home.tag ∙ ap tag_of st))

      home_block : AtBlock plan.words s.nodes (s.home b) (flat b) (home_at g2 b (s.home b)) (spot_at g2 b (s.home b))
      home_block = own_fault plan s.nodes (s.home b) (flat b) g g2 (fault store b (s.home b)) _ (k.homes b)
          (k.block b lb) refl kind_is refl o others (λ j d. refl) none unheld not_all

      home_else : Elsewhere s g2 b
      home_else = home_elsewhere plan s g g2 (fault store b (s.home b)) g.wires _ (k.elsewhere b lb) (k.homes b) o others
          (plan.sends.home_on_one s.nodes _ _ _ (fault store b (s.home b)) o.effect (k.block b lb).at_home o.does)
          (λ f2 t2 c2 x. refl) (λ j x. refl)

      home_node : AtNode plan.words s (g2.locals (s.home b)) (s.home b) b
      home_node = node_home_own plan.words s (record (g.locals (s.home b)) { mode = Blocked b }) _ _ b
          (fault store b (s.home b)) o.effect refl
          (plan.home.own_effect s.nodes _ _ _ (fault store b (s.home b)) o.effect b
          (k.block b lb).at_home o.does kind_is unheld not_all)
          (kept_from_sender plan s.nodes _ _ (fault store b (s.home b)) _ _ _ _ o _ refl
          ∙ ap (λ z. z ++ kept_if o.effect.kept (note (fault store b (s.home b)))) none) o.here o.mode o.next refl
          (rw q at nx)

      home_settled : IsSettled (home_at g2 b (s.home b)).state → AllEligible b (g2.locals (s.home b)).deferred
      home_settled st =
          rw o.deferred (settled_own plan s.nodes (s.home b) (home_at g b (s.home b))
          (fault store b (s.home b)) o.effect _ o.does (k.settled b lb) (subst (λ z. IsSettled z.state) o.here st))

    module _ (d : i ≢ s.home b) where
      state_at : IsCacheState ((g.locals i).blocks b).state
      unfolding spot_at
      state_at = ((k.block b lb).caches i lf d).state

      cache_block : AtBlock plan.words s.nodes (s.home b) (flat b) (home_at g2 b (s.home b)) (spot_at g2 b (s.home b))
      cache_block = cache_faults plan s.nodes (s.home b) i (flat b) g g2 (fault store b i) g.wires _ lf d
          (k.block b lb) refl e.handles e.others (λ f2 t2 c2 x. refl) kind_is refl

      cache_else : Elsewhere s g2 b
      cache_else = cache_elsewhere plan s i g g2 (fault store b i) g.wires _ lf d (k.elsewhere b lb) state_at
          (λ x. absurd (not_order x)) e.handles e.others (λ f2 t2 c2 x. refl) (λ j. refl)

      cache_node : AtNode plan.words s (g2.locals i) i b
      cache_node = plan.cache.node_cache_fault s (record (g.locals i) { mode = Blocked b }) _ i b
          (fault store b i) e.handles.effect d e.handles.does state_at e.handles.here e.handles.mode e.handles.next refl nx

    next_is : (g.locals i).mode ≡ (g.locals i).mode → ((g.locals i).next ≡ Loads b) ⊎ ((g.locals i).next ≡ Stores b)
    next_is _ = go nx
      where
        go : FaultOf b (fault_kind store) (g.locals i).next → ((g.locals i).next ≡ Loads b) ⊎ ((g.locals i).next ≡ Stores b)
        go (inl v) = inl v.1
        go (inr v) = inr v.1

    idle_as_blocked : (x : ℕ) → x < s.blocks → b ≢ x → AtNode plan.words s (record (g.locals i) { mode = Blocked b }) i x
    idle_as_blocked x lx d = let a = idle_here x lx in at_other s (record (g.locals i) { mode = Blocked b }) i x b
        (record { ro = a.ro; write = a.write; rd = a.rd; wr = a.wr; held = a.held }) refl d

    fault_node : (x : ℕ) → x < s.blocks → AtNode plan.words s (g2.locals i) i x
    fault_node x lx = elim (cases_eq x b) [
      | inl p ↦ rw p (elim (cases_eq i (s.home b)) [ inl q ↦ rw q (home_node q) | inr d ↦ cache_node d ])
      | inr p ↦ node_frame plan.words s (record (g.locals i) { mode = Blocked b }) (g2.locals i) i x b e.handles.effect.woke
          (idle_as_blocked x lx (λ r. p (sym r))) (λ _. next_is refl)
          (record { block = e.handles.others x p; kept = (faults_frame plan s g i store b g2 e x (λ r. p (sym r))).kept i i })
          p e.handles.mode e.handles.next e.handles.may (λ z. absurd (let f : Blocked b ≡ Woken = z in cc))
    ]

    fault_settled : (x : ℕ) → x < s.blocks → IsSettled (home_at g2 x (s.home x)).state →
        AllEligible x (g2.locals (s.home x)).deferred
    fault_settled x lx =
        elim (cases_eq (s.home x) i) [
          | inl q ↦ here q (cases_eq x b)
          | inr d ↦
              (λ st. rw (e.others (s.home x) d)
              (k.settled x lx (subst (λ z. IsSettled (z.blocks x).state) (e.others (s.home x) d) st)))
        ]
      where
        here : s.home x ≡ i → (x ≡ b) ⊎ (x ≢ b) → IsSettled (home_at g2 x (s.home x)).state →
            AllEligible x (g2.locals (s.home x)).deferred
        here q (inr p) st =
            rw (q, e.handles.deferred) (settled_frame x e.handles.effect (fault store b i) _ (λ r. p (sym r))
            (let f : IsSettled (home_at g x i).state → AllEligible x (g.locals i).deferred = rw q at (k.settled x lx) in f
            (let z : IsSettled (home_at g2 x i).state = rw q at st in rw (e.handles.others x p) at z)))
        here q (inl p) st = rw p (home_settled (sym (rw p at q)) (rw p at st))

    pub fault_keeps : Coherent plan.words s flat g2
    fault_keeps = record {
      homes = k.homes;
      block = λ x lx. elim (cases_eq x b) [
        | inl p ↦ rw p (elim (cases_eq i (s.home b)) [ inl q ↦ home_block q | inr d ↦ cache_block d ])
        | inr p ↦ block_frame plan s.nodes (s.home x) (flat x) g g2 x (faults_frame plan s g i store b g2 e x (λ r. p (sym r)))
            (k.block x lx)
      ];
      elsewhere = λ x lx. elim (cases_eq x b) [
        | inl p ↦ rw p (elim (cases_eq i (s.home b)) [ inl q ↦ home_else q | inr d ↦ cache_else d ])
        | inr p ↦ elsewhere_frame s g g2 x (faults_frame plan s g i store b g2 e x (λ r. p (sym r))) (k.elsewhere x lx)
      ];
      node = λ j x lj lx. elim (cases_eq j i) [ inl p ↦ rw p (fault_node x lx) | inr p ↦ rw (e.others j p) (k.node j x lj lx) ];
      settled = fault_settled;
      sent = λ f t c. rw (e.handles.wires f t c) (AllSentBy-append f _ _ (k.sent f t c)
          (AllSentBy-on_wire f t c e.handles.effect.sends));
    }
