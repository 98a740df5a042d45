-- A delivery keeps coherence.
use Rattle.std.proofs.Common.{ℕ, ◌≡◌, ◌≢◌, ◌<◌, List, [], ◌∷◌, arith, refl, sym, ap, subst, ◌∙◌, inl, inr, ◌⊎◌}
use Rattle.std.proofs.lemmas.Bool.{cases_lt, cases_eq}
use Rattle.block_spots.specs.Cases.{State, CacheWaitRo, CacheWaitRw, RdFault, WrFault, Message, Here}
use Rattle.block_spots.specs.Sketches.{Local, Loads, Stores, Wires, Sketch, Handles, Takes, OnlyAt, Layout, Delivers, spot_at}
use Rattle.block_spots.specs.Sketches.{home_at}
use Rattle.dsm_runs.specs.declared.mode.Mode.TheVariants.{Blocked}
use Rattle.coherence_frame.specs.Words.{IsWaiting, own_rd, own_wr, Elsewhere, AllEligible, IsSettled, AllSentBy, IsCacheState}
use Rattle.coherence_frame.specs.Words.{tag_of}
use Rattle.block_spots.specs.Notes.{Note, note, notes, Spot}
use Rattle.tw_base.specs.declared.message.Chan.{Chan}
use Rattle.tw_base.specs.declared.message.Chan.TheVariants.{Zero, One}
use Rattle.coherence_frame.specs.Coherent.{AtCache, AtHome, AtBlock, AtNode, Coherent}
use Rattle.coherence_frame.proofs.Frame.{SameBlock, same_spot, delivers_frame}
use Rattle.coherence_frame.proofs.Sends.{front_note}
use Rattle.coherence_frame.proofs.Events.{kept_from_other}
use Rattle.coherence_frame.proofs.AtHomes.{request_comes, answer_comes}
use Rattle.coherence_frame.proofs.AtCaches.{only_down, cache_takes}
use Rattle.coherence_frame.proofs.Elsewheres.{cache_elsewhere, home_elsewhere, settled_frame, settled_own, AllSentBy-append}
use Rattle.coherence_frame.proofs.Elsewheres.{AllSentBy-on_wire}
use Rattle.coherence_frame.proofs.Nodes.{node_frame, node_home_other, HomeEffect}
use Rattle.coherence_frame.proofs.Rows.{Plan}

pub elsewhere_frame : (s : Layout) (g g2 : Sketch) (b : ℕ) → SameBlock g g2 b → Elsewhere s g b → Elsewhere s g2 b
elsewhere_frame s g g2 b sb el = record {
  between = λ f t c fl tl x y. sb.notes f t c ∙ el.between f t c fl tl x y;
  from_home = λ t tl x. sb.notes _ t Zero ∙ el.from_home t tl x;
  deferred = λ k j kl x. sb.kept k j ∙ el.deferred k j kl x;
  strangers = λ j x. sb.kept _ j ∙ el.strangers j x;
}

module _ (plan : Plan) where
  -- a node that is blocked on c has an access of c as its next instruction
  pub next_of_blocked : (s : Layout) (l : Local) (i c : ℕ) → AtNode plan.words s l i c → l.mode ≡ Blocked c →
      (l.next ≡ Loads c) ⊎ (l.next ≡ Stores c)
  next_of_blocked s l i c a p = elim (cases_eq i (s.home c)) [ inl q ↦ at_home q | inr q ↦ at_cache q (l.blocks c).state refl ]
    where
      at_cache : i ≢ s.home c → (x : State) → (l.blocks c).state ≡ x → (l.next ≡ Loads c) ⊎ (l.next ≡ Stores c)
      at_cache q CacheWaitRo e = inl (a.waits_ro q e).1
      at_cache q CacheWaitRw e = inr (a.waits_rw q e).1
      at_cache q x e = absurd (let f : IsWaiting (l.blocks c).state = a.blocked q p in let g : IsWaiting x = rw e at f in g)

      at_home : i ≡ s.home c → (l.next ≡ Loads c) ⊎ (l.next ≡ Stores c)
      at_home q = elim (cases_lt 0 (own_rd l i c)) [
        | inl x ↦ inl (a.rd q x).1
        | inr x ↦ elim (cases_lt 0 (own_wr l i c)) [
          | inl y ↦ inr (a.wr q y).1
          | inr y ↦ plan.says.held_is_access _ _ l.next c (a.held q (omega (arith, a.blocked_home q p))).1
        ]
      ]

  -- a block that an event is not about
  pub block_frame : (n h : ℕ) (cur : List ℕ) (g g2 : Sketch) (b : ℕ) → SameBlock g g2 b →
      AtBlock plan.words n h cur (home_at g b h) (spot_at g b h) → AtBlock plan.words n h cur (home_at g2 b h) (spot_at g2 b h)
  block_frame n h cur g g2 b sb a = let spots : spot_at g2 b h ≡ spot_at g b h =
      λ i j. same_spot g g2 b sb h j i in rw (sb.blocks h, spots) a

  pub takes_sent : (f t : ℕ) (c : Chan) (m : Message) (w w2 : Wires) → Takes f t c m w w2 →
      ((f2 t2 : ℕ) (c2 : Chan) → AllSentBy f2 (w f2 t2 c2)) → (f2 t2 : ℕ) (c2 : Chan) → AllSentBy f2 (w2 f2 t2 c2)
  takes_sent f t c m w w2 a h f2 t2 c2 = go (cases_eq f2 f) (cases_eq t2 t) (cases_chan c2 c)
    where
      cases_chan : (x y : Chan) → (x ≡ y) ⊎ (x ≢ y)
      cases_chan Zero Zero = inl refl
      cases_chan One One = inl refl
      cases_chan Zero One = inr (λ q. (let z : Zero ≡ One = q in cc))
      cases_chan One Zero = inr (λ q. (let z : One ≡ Zero = q in cc))

      go : (f2 ≡ f) ⊎ (f2 ≢ f) → (t2 ≡ t) ⊎ (t2 ≢ t) → (c2 ≡ c) ⊎ (c2 ≢ c) → AllSentBy f2 (w2 f2 t2 c2)
      go (inl p) (inl q) (inl r) = rw (p, q, r) (let x : AllSentBy f (m ∷ w2 f t c) = rw a.front at (h f t c) in x.1)
      go (inr p) q r = rw (a.others f2 t2 c2 (inl p)) (h f2 t2 c2)
      go p (inr q) r = rw (a.others f2 t2 c2 (inr (inl q))) (h f2 t2 c2)
      go p q (inr r) = rw (a.others f2 t2 c2 (inr (inr r))) (h f2 t2 c2)

  pub no_fault_ask : (n h : ℕ) (home : Here) (i : ℕ) (sp : Spot) (m : Message) (xs : List Note) →
      AtCache plan.words n h home i sp → sp.ask ≡ note m ∷ xs → (m.kind ≢ RdFault) × (m.kind ≢ WrFault)
  no_fault_ask n h home i sp m xs a e = ((λ q. grind arith), (λ q. grind arith))

  module _ (s : Layout) (flat : ℕ → List ℕ) (g : Sketch) (i f : ℕ) (c : Chan) (g2 : Sketch)
      (e : Delivers plan.table s g i f c g2) (k : Coherent plan.words s flat g) where
    m : Message
    m = e.message

    h : ℕ
    h = s.home e.message.block

    pub sender : e.message.from ≡ f
    sender = let x : AllSentBy f (e.message ∷ e.between f i c) = rw e.takes.front at (k.sent f i c) in x.0

    pub to_home : i ≡ s.home e.message.block → f ≢ s.home e.message.block
    unfolding spot_at
    to_home q p = go c refl
      where
        own : notes e.message.block (g.wires f i c) ≡ note e.message ∷ notes e.message.block (e.between f i c)
        own = front_note f i c e.message g.wires e.between e.takes

        at : AtHome plan.words s.nodes (s.home e.message.block) (home_at g e.message.block (s.home e.message.block))
            (spot_at g e.message.block (s.home e.message.block) (s.home e.message.block))
        at = (k.block e.message.block e.in_shape).at_home

        go : (x : Chan) → c ≡ x → ⊥
        go Zero r = let z : notes e.message.block (g.wires f i c) ≡ [] = rw (p, q, r) at.ask in cc own
        go One r = let z : notes e.message.block (g.wires f i c) ≡ [] = rw (p, q, r) at.down in cc own

    at_home_block : i ≡ s.home e.message.block → AtBlock plan.words s.nodes (s.home e.message.block) (flat e.message.block)
        (home_at g2 e.message.block (s.home e.message.block)) (spot_at g2 e.message.block (s.home e.message.block))
    at_home_block q = go c refl
      where
        o : Handles plan.table s.nodes (s.home e.message.block) (s.home e.message.block) e.message
            (g.locals (s.home e.message.block)) e.between (g2.locals (s.home e.message.block)) g2.wires
        o = rw q at e.handles

        others : OnlyAt (s.home e.message.block) g g2
        others = rw q at e.others

        go : (x : Chan) → c ≡ x → AtBlock plan.words s.nodes (s.home e.message.block) (flat e.message.block)
            (home_at g2 e.message.block (s.home e.message.block)) (spot_at g2 e.message.block (s.home e.message.block))
        go Zero r = request_comes plan s.nodes (s.home e.message.block) f (flat e.message.block) g g2 e.message e.between
            (k.homes _) (k.block e.message.block e.in_shape) sender e.from_node (to_home q) o others (rw (q, r) at e.takes)
        go One r = answer_comes plan s.nodes (s.home e.message.block) f (flat e.message.block) g g2 e.message e.between
            (k.homes _) (k.block e.message.block e.in_shape) sender e.from_node (to_home q) o others (rw (q, r) at e.takes)

    pub down_wire : i ≢ s.home e.message.block → (f ≡ s.home e.message.block) × (c ≡ One)
    down_wire d = only_down s.nodes e.message.block g (s.home e.message.block) i f c e.at_node e.from_node d
        (k.elsewhere e.message.block e.in_shape).between (k.elsewhere e.message.block e.in_shape).from_home _ _
        (front_note f i c e.message g.wires e.between e.takes)

    pub takes_down : i ≢ s.home e.message.block → Takes (s.home e.message.block) i One e.message g.wires e.between
    takes_down d = rw (down_wire d).1 at (rw (down_wire d).0 at e.takes)

    wires_at_cache : i ≢ s.home e.message.block → (f2 t2 : ℕ) (c2 : Chan) →
        (f2 ≢ s.home e.message.block) ⊎ (t2 ≢ i) ⊎ (c2 ≢ One) →
        notes e.message.block (e.between f2 t2 c2) ≡ notes e.message.block (g.wires f2 t2 c2)
    wires_at_cache d f2 t2 c2 x = ap (notes e.message.block) ((takes_down d).others f2 t2 c2 x)

    at_cache_block : i ≢ s.home e.message.block → AtBlock plan.words s.nodes (s.home e.message.block) (flat e.message.block)
        (home_at g2 e.message.block (s.home e.message.block)) (spot_at g2 e.message.block (s.home e.message.block))
    at_cache_block d = cache_takes plan s.nodes (s.home e.message.block) i (flat e.message.block) g g2 e.message e.between
        (g.locals i) e.at_node d (k.block e.message.block e.in_shape) refl e.handles e.others
        (λ f2 t2 c2 x. wires_at_cache d f2 t2 c2 (weaker x)) (sender ∙ (down_wire d).0)
        (front_note _ i One e.message g.wires e.between (takes_down d))
      where
        weaker : {A B C : Type 0} → A ⊎ B → A ⊎ B ⊎ C
        weaker (inl x) = inl x
        weaker (inr x) = inr (inl x)

    pub deliver_block : (b : ℕ) → b < s.blocks → AtBlock plan.words s.nodes (s.home b) (flat b) (home_at g2 b (s.home b))
        (spot_at g2 b (s.home b))
    deliver_block b lb = elim (cases_eq b e.message.block) [
      | inl p ↦ rw p (elim (cases_eq i (s.home e.message.block)) [ inl q ↦ at_home_block q | inr d ↦ at_cache_block d ])
      | inr p ↦ block_frame s.nodes (s.home b) (flat b) g g2 b (delivers_frame plan s g i f c g2 e b (λ q. p (sym q)))
          (k.block b lb)
    ]

    pub at_cache_spot : (b : ℕ) → b < s.blocks → i ≢ s.home b →
        IsCacheState ((g.locals i).blocks b).state × (((g.locals i).blocks b).tag ≡ tag_of ((g.locals i).blocks b).state)
    unfolding spot_at
    at_cache_spot b lb d = let a : AtCache plan.words s.nodes (s.home b) (home_at g b (s.home b)) i
        (spot_at g b (s.home b) i) = (k.block b lb).caches i e.at_node d in (a.state, a.tag)

    pub deliver_elsewhere : (b : ℕ) → b < s.blocks → Elsewhere s g2 b
    deliver_elsewhere b lb = elim (cases_eq b e.message.block) [
      | inl p ↦ rw p (elim (cases_eq i (s.home e.message.block)) [ inl q ↦ at_home q | inr d ↦ at_cache d ])
      | inr p ↦ elsewhere_frame s g g2 b (delivers_frame plan s g i f c g2 e b (λ q. p (sym q))) (k.elsewhere b lb)
    ]
      where
        at_cache : i ≢ s.home e.message.block → Elsewhere s g2 e.message.block
        at_cache d = cache_elsewhere plan s i g g2 e.message e.between (g.locals i) e.at_node d (k.elsewhere _ e.in_shape)
            (at_cache_spot _ e.in_shape d).0 (λ _. sender ∙ (down_wire d).0) e.handles e.others (wires_at_cache d) (λ j. refl)

        at_home : i ≡ s.home e.message.block → Elsewhere s g2 e.message.block
        at_home q =
            let o : Handles plan.table s.nodes (s.home e.message.block) (s.home e.message.block) e.message
            (g.locals (s.home e.message.block)) e.between (g2.locals (s.home e.message.block)) g2.wires =
            rw q at e.handles in
            let tk : Takes f (s.home e.message.block) c e.message g.wires e.between = rw q at e.takes in
            home_elsewhere plan s g g2 e.message e.between (g.locals (s.home e.message.block)) (k.elsewhere _ e.in_shape)
            (rw sender e.from_node) o (rw q at e.others)
            (plan.sends.home_on_one s.nodes _ _ _ e.message o.effect (k.block e.message.block e.in_shape).at_home o.does)
            (λ f2 t2 c2 x. ap (notes e.message.block) (tk.others f2 t2 c2 (inr (inl x)))) (λ j _. refl)

    pub deliver_sent : (f2 t2 : ℕ) (c2 : Chan) → AllSentBy f2 (g2.wires f2 t2 c2)
    deliver_sent f2 t2 c2 =
        rw (e.handles.wires f2 t2 c2) (AllSentBy-append f2 _ _ before (AllSentBy-on_wire f2 t2 c2 e.handles.effect.sends))
      where
        before : AllSentBy f2 (e.between f2 t2 c2)
        before = takes_sent f i c e.message g.wires e.between e.takes k.sent f2 t2 c2

    pub not_fault_down : i ≢ s.home e.message.block → (e.message.kind ≢ RdFault) × (e.message.kind ≢ WrFault)
    unfolding spot_at
    not_fault_down d = plan.says.no_fault_down s.nodes _ _ i _ e.message _
        ((k.block e.message.block e.in_shape).caches i e.at_node d)
        (front_note _ i One e.message g.wires e.between (takes_down d))

    pub not_fault_home : i ≡ s.home e.message.block → (e.message.kind ≢ RdFault) × (e.message.kind ≢ WrFault)
    unfolding spot_at
    not_fault_home q = go c refl
      where
        at : AtCache plan.words s.nodes (s.home e.message.block) (home_at g e.message.block (s.home e.message.block)) f
            (spot_at g e.message.block (s.home e.message.block) f)
        at = (k.block e.message.block e.in_shape).caches f e.from_node (to_home q)

        go : (x : Chan) → c ≡ x → (e.message.kind ≢ RdFault) × (e.message.kind ≢ WrFault)
        go Zero r = no_fault_ask s.nodes _ _ f _ e.message _ at
            (front_note f _ Zero e.message g.wires e.between (rw (q, r) at e.takes))
        go One r = plan.says.no_fault_up s.nodes _ _ f _ e.message _ at
            (front_note f _ One e.message g.wires e.between (rw (q, r) at e.takes))

    node_at : (b : ℕ) → b < s.blocks → AtNode plan.words s (g2.locals i) i b
    node_at b lb = elim (cases_eq b e.message.block) [
      | inl p ↦ rw p (elim (cases_eq i (s.home e.message.block)) [ inl q ↦ at_home q | inr d ↦ at_cache d ])
      | inr p ↦ node_frame plan.words s (g.locals i) (g2.locals i) i b e.message.block e.handles.effect.woke
          (k.node i b e.at_node lb) (next_of_blocked s (g.locals i) i e.message.block
          (k.node i e.message.block e.at_node e.in_shape))
          (record { block = e.handles.others b p; kept = (delivers_frame plan s g i f c g2 e b (λ q. p (sym q))).kept i i }) p
          e.handles.mode e.handles.next e.handles.may e.free
    ]
      where
        at_cache : i ≢ s.home e.message.block → AtNode plan.words s (g2.locals i) i e.message.block
        at_cache d = plan.cache.node_message s (g.locals i) (g2.locals i) i e.message.block e.message e.handles.effect
            (k.node i _ e.at_node e.in_shape) d e.handles.does e.handles.here e.handles.mode e.handles.next e.handles.may e.free
            (at_cache_spot _ e.in_shape d).0 (not_fault_down d).0 (not_fault_down d).1

        at_home : i ≡ s.home e.message.block → AtNode plan.words s (g2.locals i) i e.message.block
        at_home q = node_home_other plan.words s (g.locals i) (g2.locals i) i e.message.block e.handles.effect
            (k.node i _ e.at_node e.in_shape) q effect
            (kept_from_other plan s.nodes _ i e.message _ _ _ _ e.handles i (λ r. to_home q (sym sender ∙ r ∙ q)))
            e.handles.here e.handles.mode e.handles.next e.handles.may e.free
          where
            o : Handles plan.table s.nodes (s.home e.message.block) (s.home e.message.block) e.message
                (g.locals (s.home e.message.block)) e.between (g2.locals (s.home e.message.block)) g2.wires
            o = rw q at e.handles

            effect : HomeEffect plan.words ((g.locals i).blocks e.message.block) e.handles.effect
            effect =
                rw q (plan.home.home_effect s.nodes (s.home e.message.block)
                (home_at g e.message.block (s.home e.message.block)) _ e.message e.handles.effect
                (k.block e.message.block e.in_shape).at_home (rw q at e.handles.does) (not_fault_home q).0 (not_fault_home q).1)

    pub deliver_node : (j b : ℕ) → j < s.nodes → b < s.blocks → AtNode plan.words s (g2.locals j) j b
    deliver_node j b lj lb = elim (cases_eq j i) [ inl p ↦ rw p (node_at b lb) | inr p ↦ rw (e.others j p) (k.node j b lj lb) ]

    own_settled : s.home e.message.block ≡ i → IsSettled (home_at g2 e.message.block (s.home e.message.block)).state →
        AllEligible e.message.block (g2.locals (s.home e.message.block)).deferred
    own_settled q st =
        let o : Handles plan.table s.nodes (s.home e.message.block) (s.home e.message.block) e.message
        (g.locals (s.home e.message.block)) e.between (g2.locals (s.home e.message.block)) g2.wires =
        rw (sym q) at e.handles in
        rw o.deferred (settled_own plan s.nodes (s.home e.message.block)
        (home_at g e.message.block (s.home e.message.block)) e.message o.effect _ o.does
        (k.settled e.message.block e.in_shape) (rw o.here at st))

    pub deliver_settled : (b : ℕ) → b < s.blocks → IsSettled (home_at g2 b (s.home b)).state →
        AllEligible b (g2.locals (s.home b)).deferred
    deliver_settled b lb =
        elim (cases_eq (s.home b) i) [
          | inl q ↦ here q (cases_eq b e.message.block)
          | inr d ↦
              (λ st. rw (e.others (s.home b) d)
              (k.settled b lb (subst (λ z. IsSettled (z.blocks b).state) (e.others (s.home b) d) st)))
        ]
      where
        here : s.home b ≡ i → (b ≡ e.message.block) ⊎ (b ≢ e.message.block) → IsSettled (home_at g2 b (s.home b)).state →
            AllEligible b (g2.locals (s.home b)).deferred
        here q (inr p) st =
            rw (q, e.handles.deferred) (settled_frame b e.handles.effect e.message _ (λ r. p (sym r))
            (let f : IsSettled (home_at g b i).state → AllEligible b (g.locals i).deferred = rw q at (k.settled b lb) in f
            (let z : IsSettled (home_at g2 b i).state = rw q at st in rw (e.handles.others b p) at z)))
        here q (inl p) st = rw p (own_settled (rw p at q) (rw p at st))

    pub deliver_keeps : Coherent plan.words s flat g2
    deliver_keeps = record {
      homes = k.homes;
      block = deliver_block;
      elsewhere = deliver_elsewhere;
      node = deliver_node;
      settled = deliver_settled;
      sent = deliver_sent;
    }
