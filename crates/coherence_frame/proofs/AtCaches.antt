-- An event at a cache of a block keeps what coherence says of the block.
use Rattle.block_spots.specs.Cases.{Here, RdFault, WrFault, State, HomeRw, HomeRo, HomeExcl, HomeAcks, HomePut, CacheInv}
use Rattle.block_spots.specs.Cases.{CacheRo, CacheRw, CacheWaitRo, CacheWaitRw, Message}
use Rattle.block_spots.specs.Notes.{Spot, owes, Note, note, notes, kept_notes}
use Rattle.block_spots.proofs.Sums.{sum_below_same}
use Rattle.coherence_frame.specs.Coherent.{AtCache, AtBlock}
use Rattle.std.proofs.Common.{◌≡◌, ◌≢◌, ℕ, ◌<◌, List, [], ◌∷◌, ◌++◌, Some, refl, sym, ap, ◌∙◌, inl, inr, ◌⊎◌}
use Rattle.std.proofs.lemmas.Bool.{cases_eq}
use Rattle.block_spots.specs.Sketches.{Local, Wires, Sketch, Handles, OnlyAt, spot_at, home_at}
use Rattle.tw_base.specs.declared.message.Chan.{Chan}
use Rattle.tw_base.specs.declared.message.Chan.TheVariants.{Zero, One}
use Rattle.coherence_frame.specs.Words.{current_in, owner_words}
use Rattle.coherence_frame.proofs.Views.{sent}
use Rattle.coherence_frame.proofs.Events.{wire_after, wire_from_other}
use Rattle.coherence_frame.proofs.Turning.{current_same, CacheTurn}
use Rattle.coherence_frame.proofs.Rows.{Plan}

-- what coherence says of a wire that ends at a cache: it is the one from the home on channel 1, and else empty
pub only_down : (n b : ℕ) (g : Sketch) (h i f : ℕ) (c : Chan) → i < n → f < n → i ≢ h →
    ((f2 t2 : ℕ) (c2 : Chan) → f2 < n → t2 < n → f2 ≢ h → t2 ≢ h → notes b (g.wires f2 t2 c2) ≡ []) →
    ((t2 : ℕ) → t2 < n → t2 ≢ h → notes b (g.wires h t2 Zero) ≡ []) →
    (x : Note) (xs : List Note) → notes b (g.wires f i c) ≡ x ∷ xs → (f ≡ h) × (c ≡ One)
only_down n b g h i f c li lf d between from_home x xs e = go (cases_eq f h) c refl
  where
    go : (f ≡ h) ⊎ (f ≢ h) → (y : Chan) → c ≡ y → (f ≡ h) × (c ≡ One)
    go (inl p) One q = (p, q)
    go (inl p) Zero q = let z : notes b (g.wires f i c) ≡ [] = rw (p, q) (from_home i li d) in cc
    go (inr p) y q = let z : notes b (g.wires f i c) ≡ [] = between f i c lf li p d in cc

module _ (plan : Plan) where
  -- a cache's own turn: all its row does is at its spot, and what it owes stays
  pub cache_turn : (n h : ℕ) (cur : List ℕ) (home : Here) (spots spots2 : ℕ → Spot) → AtBlock plan.words n h cur home spots →
      (cur2 : List ℕ) (i : ℕ) → i < n → i ≢ h → ((j : ℕ) → j ≢ i → spots2 j ≡ spots j) →
      AtCache plan.words n h home i (spots2 i) × (owes (spots2 i) ≡ owes (spots i)) →
      current_in home.state home.words (spots2 home.owner) ≡ cur2 → AtBlock plan.words n h cur2 home spots2
  cache_turn n h cur home spots spots2 a cur2 i l d o c tie = record {
    caches = λ j lj dj. elim (cases_eq j i) [ inl e ↦ rw e c.0 | inr e ↦ rw (o j e) (a.caches j lj dj) ];
    at_home = rw (o h (λ e. d (sym e))) a.at_home;
    acks = λ p. a.acks p
        ∙ sum_below_same n _ _ (λ j lj. elim (cases_eq j i) [ inl e ↦ rw e (sym c.1) | inr e ↦ rw (o j e) refl ]);
    tie = tie;
  }

  module _ (n h i : ℕ) (cur : List ℕ) (g g2 : Sketch) (m : Message) (w : Wires) (l : Local) (ln : i < n) (d : i ≢ h)
      (a : AtBlock plan.words n h cur (home_at g m.block h) (spot_at g m.block h))
      (same : l.blocks m.block ≡ (g.locals i).blocks m.block)
      (o : Handles plan.table n h i m l w (g2.locals i) g2.wires) (others : OnlyAt i g g2)
      (wires : (f t : ℕ) (c : Chan) → (f ≢ h) ⊎ (t ≢ i) → notes m.block (w f t c) ≡ notes m.block (g.wires f t c)) where
    does4 : plan.table n h i ((g.locals i).blocks m.block) m ≡ Some o.effect
    does4 = let f : plan.table n h i (l.blocks m.block) m ≡ Some o.effect = o.does in rw same at f

    home_stays : home_at g2 m.block h ≡ home_at g m.block h
    home_stays = ap (λ z. z.blocks m.block) (others h (λ q. d (sym q)))

    turn4 : CacheTurn h i m o.effect (spot_at g m.block h i) (spot_at g2 m.block h i) (notes m.block (w h i One))
    unfolding spot_at
    turn4 = record {
      state = ap (λ z. z.state) o.here;
      tag = ap (λ z. z.tag) o.here;
      rest = ap (λ z. z.rest) o.here;
      words = ap (λ z. z.words) o.here;
      ask = wire_after plan n h i m _ _ _ _ o i h Zero ∙ ap (λ z. z ++ sent m.block o.effect.sends i h Zero)
          (wires i h Zero (inl d));
      kept = ap (λ z. kept_notes m.block i z.deferred) (others h (λ q. d (sym q)));
      down = wire_from_other plan n h i m _ _ _ _ o h i One (λ q. d (sym q));
      up = wire_after plan n h i m _ _ _ _ o i h One ∙ ap (λ z. z ++ sent m.block o.effect.sends i h One) (wires i h One (inl d));
    }

    elsewhere_stays : (j : ℕ) → j ≢ i → spot_at g2 m.block h j ≡ spot_at g m.block h j
    unfolding spot_at
    elsewhere_stays j ji = simp (
      others j ji,
      others h (λ q. d (sym q)),
      wire_from_other plan n h i m _ _ _ _ o j h Zero ji,
      wires j h Zero (inr (λ q. d (sym q))),
      wire_from_other plan n h i m _ _ _ _ o h j One (λ q. d (sym q)),
      wires h j One (inr ji),
      wire_from_other plan n h i m _ _ _ _ o j h One ji,
      wires j h One (inr (λ q. d (sym q))),
    )

    tie_of : (((home_at g m.block h).state ≡ HomeExcl) ⊎ ((home_at g m.block h).state ≡ HomePut) →
        i ≡ (home_at g m.block h).owner → owner_words (spot_at g2 m.block h i) ≡ owner_words (spot_at g m.block h i)) →
        current_in (home_at g m.block h).state (home_at g m.block h).words (spot_at g2 m.block h (home_at g m.block h).owner)
        ≡ cur
    tie_of ow = go (cases_eq (home_at g m.block h).owner i) (home_at g m.block h).state refl a.tie
      where
        go : ((home_at g m.block h).owner ≡ i) ⊎ ((home_at g m.block h).owner ≢ i) → (x : State) →
            (home_at g m.block h).state ≡ x →
            current_in (home_at g m.block h).state (home_at g m.block h).words
            (spot_at g m.block h (home_at g m.block h).owner) ≡ cur →
            current_in (home_at g m.block h).state (home_at g m.block h).words
            (spot_at g2 m.block h (home_at g m.block h).owner) ≡ cur
        go (inr q) x p z = ap (λ y. current_in (home_at g m.block h).state (home_at g m.block h).words y) (elsewhere_stays _ q)
            ∙ z
        go (inl q) HomeExcl p z = current_same (home_at g m.block h).state (home_at g m.block h).words
            (spot_at g2 m.block h (home_at g m.block h).owner) (spot_at g m.block h (home_at g m.block h).owner)
            (rw q (ow (inl p) (sym q))) ∙ z
        go (inl q) HomePut p z = current_same (home_at g m.block h).state (home_at g m.block h).words
            (spot_at g2 m.block h (home_at g m.block h).owner) (spot_at g m.block h (home_at g m.block h).owner)
            (rw q (ow (inr p) (sym q))) ∙ z
        go (inl q) HomeRw p z = rw p (rw p at z)
        go (inl q) HomeRo p z = rw p (rw p at z)
        go (inl q) HomeAcks p z = rw p (rw p at z)
        go (inl q) CacheInv p z = rw p (rw p at z)
        go (inl q) CacheRo p z = rw p (rw p at z)
        go (inl q) CacheRw p z = rw p (rw p at z)
        go (inl q) CacheWaitRo p z = rw p (rw p at z)
        go (inl q) CacheWaitRw p z = rw p (rw p at z)

    pub cache_takes : m.from ≡ h → notes m.block (g.wires h i One) ≡ note m ∷ notes m.block (w h i One) →
        AtBlock plan.words n h cur (home_at g2 m.block h) (spot_at g2 m.block h)
    unfolding spot_at
    cache_takes f e =
        rw home_stays (cache_turn n h cur (home_at g m.block h) (spot_at g m.block h)
        (spot_at g2 m.block h) a cur i ln d elsewhere_stays
        (plan.cache.message_comes n h i (home_at g m.block h) ((g.locals i).blocks m.block) m o.effect (spot_at g m.block h i)
        (spot_at g2 m.block h i) (notes m.block (w h i One)) (a.caches i ln d) refl refl refl refl does4 turn4 f e)
        (tie_of (λ p q. plan.cache.words_kept n h i (home_at g m.block h) ((g.locals i).blocks m.block) m o.effect
        (spot_at g m.block h i) (spot_at g2 m.block h i) (notes m.block (w h i One))
        (a.caches i ln d) refl refl refl refl does4 turn4 p q f e)))

    pub cache_faults : (m.kind ≡ RdFault) ⊎ (m.kind ≡ WrFault) → notes m.block (g.wires h i One) ≡ notes m.block (w h i One) →
        AtBlock plan.words n h cur (home_at g2 m.block h) (spot_at g2 m.block h)
    unfolding spot_at
    cache_faults k e =
        rw home_stays (cache_turn n h cur (home_at g m.block h) (spot_at g m.block h)
        (spot_at g2 m.block h) a cur i ln d elsewhere_stays
        (plan.cache.fault_at n h i (home_at g m.block h) ((g.locals i).blocks m.block) m o.effect (spot_at g m.block h i)
        (spot_at g2 m.block h i) (notes m.block (w h i One)) (a.caches i ln d) refl refl refl refl does4 turn4 k e)
        (tie_of (λ p q. plan.cache.words_faulted n h i (home_at g m.block h) ((g.locals i).blocks m.block) m o.effect
        (spot_at g m.block h i) (spot_at g2 m.block h i) (notes m.block (w h i One))
        (a.caches i ln d) refl refl refl refl does4 turn4 p q k e)))
