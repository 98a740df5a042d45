-- What an event at a node does to the facts on its mode and its next instruction.
use Rattle.std.proofs.Common.{◌≡◌, ◌≢◌, ℕ, ◌+◌, ◌≤◌, Bool, true, false, arith, refl, sym, ap, ◌∙◌, inl, inr, ◌⊎◌}
use Rattle.std.proofs.lemmas.Bool.Decides.{nat_tests}
use Rattle.block_spots.specs.Cases.{Kind, RdFault, WrFault, State, CacheRo, CacheRw, CacheWaitRo, CacheWaitRw, Message, Here}
use Rattle.block_spots.specs.Cases.{Kept, No, Stale, Effect}
use Rattle.block_spots.specs.Notes.{Note, NAck, note, kept_notes, held_home, is_rd_fault, is_wr_fault}
use Rattle.block_spots.specs.Sketches.{Local, Layout, Next, Loads, Stores}
use Rattle.dsm_runs.specs.Events.{mode_after}
use Rattle.dsm_runs.specs.declared.mode.Mode.{Mode}
use Rattle.dsm_runs.specs.declared.mode.Mode.TheVariants.{Blocked, Woken}
use Rattle.tw_base.specs.Lists.{how_many}
use Rattle.tw_base.specs.declared.value.Tag.TheVariants.{ReadOnly, ReadWrite}
use Rattle.coherence_frame.specs.Words.{allows_load, allows_store, IsWaiting, own_rd, own_wr}
use Rattle.coherence_frame.specs.Coherent.{AtNode, Standing}
use Rattle.coherence_frame.proofs.Turning.{kept_if}

-- an access of b that made a fault
abbrev pub FaultOf : ℕ → Kind → Next → Type 0
FaultOf b kd x = (kd ≡ RdFault) × (x ≡ Loads b) ⊎ (kd ≡ WrFault) × (x ≡ Stores b)

-- the parts of a local that the facts on block b read
pub record Seen (l l2 : Local) (i b : ℕ) : Type 0 where
  pub block : l2.blocks b ≡ l.blocks b
  pub kept : kept_notes b i l2.deferred ≡ kept_notes b i l.deferred

pub mode_blocked : (t : Bool) (c : ℕ) (x : Mode) (b : ℕ) → mode_after t c x ≡ Blocked b → x ≡ Blocked b
mode_blocked t c x b h = grind (arith, nat_tests)

pub mode_woken : (t : Bool) (c : ℕ) (x : Mode) → mode_after t c x ≡ Woken → (x ≡ Woken) ⊎ (x ≡ Blocked c)
mode_woken t c x h = grind (arith, nat_tests)

-- a node that is not woken, unless it may not step, reads no tag
pub unwoken : (l l2 : Local) → l2.mode ≡ l.mode → (l.may ≡ false → l2.may ≡ false) → (l.mode ≡ Woken → l.may ≡ false) →
    l2.mode ≡ Woken → l2.may ≡ true → ⊥
unwoken l l2 mo ma fr x y = let f : l2.may ≡ false = ma (fr (sym mo ∙ x)) in cc

-- what is kept, or an ACK where nothing is
abbrev pub kept_note : Kept → Note → Note
kept_note No x = NAck
kept_note Stale x = x

abbrev pub note_kept : Effect → Message → Note
note_kept e m = kept_note e.kept (note m)

module _ (words : Standing) where
  -- another block of the node: the mode may have gone from blocked on c to woken
  pub node_frame : (s : Layout) (l l2 : Local) (i b c : ℕ) (woke : Bool) → AtNode words s l i b →
      (l.mode ≡ Blocked c → (l.next ≡ Loads c) ⊎ (l.next ≡ Stores c)) → Seen l l2 i b → b ≢ c →
      l2.mode ≡ mode_after woke c l.mode → l2.next ≡ l.next → (l.may ≡ false → l2.may ≡ false) →
      (l.mode ≡ Woken → l.may ≡ false) → AtNode words s l2 i b
  node_frame s l l2 i b c woke a ac v d mo ne ma fr = record {
    waits_ro = λ q e. (let w : (l.mode ≡ Blocked b) × (l.next ≡ Loads b) = a.waits_ro q (sym state ∙ e) in (stays w.0, ne ∙ w.1));
    waits_rw =
        λ q e. (let w : (l.mode ≡ Blocked b) × (l.next ≡ Stores b) = a.waits_rw q (sym state ∙ e) in (stays w.0, ne ∙ w.1));
    blocked = λ q e. rw state (a.blocked q (was e));
    rd = λ q e. (let w : (l.mode ≡ Blocked b) × (l.next ≡ Loads b) = a.rd q (rw v.kept at e) in (stays w.0, ne ∙ w.1));
    wr = λ q e. (let w : (l.mode ≡ Blocked b) × (l.next ≡ Stores b) = a.wr q (rw v.kept at e) in (stays w.0, ne ∙ w.1));
    held = λ q e. (let w : (l.mode ≡ Blocked b) × words.HeldFor (l.blocks b).state (l.blocks b).rest l.next b = a.held q
        (rw v.block at e) in (stays w.0, rw (v.block, ne) w.1));
    blocked_home = λ q e. rw (v.kept, v.block) (a.blocked_home q (was e));
    woken_loads = λ x y z. absurd (woken x y (inl (sym ne ∙ z)));
    woken_stores = λ x y z. absurd (woken x y (inr (sym ne ∙ z)));
  }
    where
      state : (l2.blocks b).state ≡ (l.blocks b).state
      state = ap (λ z. z.state) v.block

      stays : l.mode ≡ Blocked b → l2.mode ≡ Blocked b
      stays p = let x : mode_after woke c (Blocked b) ≡ Blocked b = by_woke woke in mo ∙ ap (mode_after woke c) p ∙ x
        where
          by_woke : (y : Bool) → mode_after y c (Blocked b) ≡ Blocked b
          by_woke true = grind (arith, nat_tests)
          by_woke false = refl

      was : l2.mode ≡ Blocked b → l.mode ≡ Blocked b
      was p = mode_blocked woke c l.mode b (sym mo ∙ p)

      woken : l2.mode ≡ Woken → l2.may ≡ true → (l.next ≡ Loads b) ⊎ (l.next ≡ Stores b) → ⊥
      woken x y z = both (mode_woken woke c l.mode (sym mo ∙ x)) z
        where
          both : (l.mode ≡ Woken) ⊎ (l.mode ≡ Blocked c) → (l.next ≡ Loads b) ⊎ (l.next ≡ Stores b) → ⊥
          both (inl e) z = let f : l2.may ≡ false = ma (fr e) in cc
          both (inr e) z = apart (ac e) z
            where
              apart : (l.next ≡ Loads c) ⊎ (l.next ≡ Stores c) → (l.next ≡ Loads b) ⊎ (l.next ≡ Stores b) → ⊥
              apart (inl u) (inl v) = d (let w : b ≡ c = cc in w)
              apart (inl u) (inr v) = cc
              apart (inr u) (inl v) = cc
              apart (inr u) (inr v) = d (let w : b ≡ c = cc in w)

  -- the node at a cache of b, when its row leaves it not waiting
  pub cache_quiet : (s : Layout) (l2 : Local) (i b : ℕ) → i ≢ s.home b → ¬ IsWaiting (l2.blocks b).state → l2.mode ≢ Blocked b →
      (l2.mode ≡ Woken → l2.may ≡ true → l2.next ≡ Loads b → allows_load (l2.blocks b).tag) →
      (l2.mode ≡ Woken → l2.may ≡ true → l2.next ≡ Stores b → allows_store (l2.blocks b).tag) → AtNode words s l2 i b
  cache_quiet s l2 i b d w nb wl ws = record {
    waits_ro = λ q e. absurd (w (rw e tt));
    waits_rw = λ q e. absurd (w (rw e tt));
    blocked = λ q e. absurd (nb e);
    rd = λ q e. absurd (d q);
    wr = λ q e. absurd (d q);
    held = λ q e. absurd (d q);
    blocked_home = λ q e. absurd (d q);
    woken_loads = wl;
    woken_stores = ws;
  }

  -- when its row leaves it waiting
  pub cache_waits : (s : Layout) (l2 : Local) (i b : ℕ) → i ≢ s.home b → l2.mode ≡ Blocked b →
      ((l2.blocks b).state ≡ CacheWaitRo) × (l2.next ≡ Loads b) ⊎ ((l2.blocks b).state ≡ CacheWaitRw) × (l2.next ≡ Stores b) →
      AtNode words s l2 i b
  cache_waits s l2 i b d p w = record {
    waits_ro = λ q e. (p, ro w e);
    waits_rw = λ q e. (p, to_write w e);
    blocked = λ q e. waiting w;
    rd = λ q e. absurd (d q);
    wr = λ q e. absurd (d q);
    held = λ q e. absurd (d q);
    blocked_home = λ q e. absurd (d q);
    woken_loads = λ x. absurd (let z : Blocked b ≡ Woken = sym p ∙ x in cc);
    woken_stores = λ x. absurd (let z : Blocked b ≡ Woken = sym p ∙ x in cc);
  }
    where
      Both : Type 0
      Both = ((l2.blocks b).state ≡ CacheWaitRo) × (l2.next ≡ Loads b) ⊎ ((l2.blocks b).state ≡ CacheWaitRw)
          × (l2.next ≡ Stores b)

      ro : Both → (l2.blocks b).state ≡ CacheWaitRo → l2.next ≡ Loads b
      ro (inl v) e = v.1
      ro (inr v) e = absurd (let z : CacheWaitRo ≡ CacheWaitRw = sym e ∙ v.0 in cc)

      to_write : Both → (l2.blocks b).state ≡ CacheWaitRw → l2.next ≡ Stores b
      to_write (inl v) e = absurd (let z : CacheWaitRw ≡ CacheWaitRo = sym e ∙ v.0 in cc)
      to_write (inr v) e = v.1

      waiting : Both → IsWaiting (l2.blocks b).state
      waiting (inl v) = rw v.0 tt
      waiting (inr v) = rw v.0 tt

  -- what a row at the home does to the rest and to the node, at a message of another node
  pub record HomeEffect (home : Here) (e : Effect) : Type 0 where
    pub sleeps : e.woke ≡ false → (held_home e.here.rest ≡ held_home home.rest)
        × (1 ≤ held_home e.here.rest → (x : Next) (b : ℕ) → words.HeldFor home.state home.rest x b →
        words.HeldFor e.here.state e.here.rest x b)
    pub wakes : e.woke ≡ true → (1 ≤ held_home home.rest) × (held_home e.here.rest ≡ 0)
        × ((x : Next) (b : ℕ) → words.HeldFor home.state home.rest x b →
        (x ≡ Loads b → allows_load e.here.tag) × (x ≡ Stores b → allows_store e.here.tag))

  pub node_home_other : (s : Layout) (l l2 : Local) (i b : ℕ) (e : Effect) → AtNode words s l i b → i ≡ s.home b →
      HomeEffect (l.blocks b) e →
      kept_notes b i l2.deferred ≡ kept_notes b i l.deferred → l2.blocks b ≡ e.here → l2.mode ≡ mode_after e.woke b l.mode →
      l2.next ≡ l.next → (l.may ≡ false → l2.may ≡ false) → (l.mode ≡ Woken → l.may ≡ false) → AtNode words s l2 i b
  node_home_other s l l2 i b e a q he kept here mo ne ma fr = go e.woke refl
    where
      rest : held_home (l2.blocks b).rest ≡ held_home e.here.rest
      rest = ap (λ z. held_home z.rest) here

      go : (t : Bool) → e.woke ≡ t → AtNode words s l2 i b
      go false w = record {
        waits_ro = λ d x. absurd (d q);
        waits_rw = λ d x. absurd (d q);
        blocked = λ d x. absurd (d q);
        rd = λ _ x. (let v : (l.mode ≡ Blocked b) × (l.next ≡ Loads b) = a.rd q (rw kept at x) in (mode ∙ v.0, ne ∙ v.1));
        wr = λ _ x. (let v : (l.mode ≡ Blocked b) × (l.next ≡ Stores b) = a.wr q (rw kept at x) in (mode ∙ v.0, ne ∙ v.1));
        held = λ _ x. holds (rw rest at x);
        blocked_home = λ _ x. omega (
          arith,
          ap (how_many is_rd_fault) kept,
          ap (how_many is_wr_fault) kept,
          rest,
          (he.sleeps w).0,
          a.blocked_home q (sym mode ∙ x),
        );
        woken_loads = λ x y z. absurd (unwoken l l2 mode ma fr x y);
        woken_stores = λ x y z. absurd (unwoken l l2 mode ma fr x y);
      }
        where
          mode : l2.mode ≡ l.mode
          mode = mo ∙ ap (λ z. mode_after z b l.mode) w

          holds : 1 ≤ held_home e.here.rest → (l2.mode ≡ Blocked b)
              × words.HeldFor (l2.blocks b).state (l2.blocks b).rest l2.next b
          holds x =
              let v : (l.mode ≡ Blocked b) × words.HeldFor (l.blocks b).state (l.blocks b).rest l.next b =
              a.held q (omega (arith, (he.sleeps w).0)) in
              (mode ∙ v.0, rw (here, ne) ((he.sleeps w).1 x l.next b v.1))
      go true w = record {
        waits_ro = λ d x. absurd (d q);
        waits_rw = λ d x. absurd (d q);
        blocked = λ d x. absurd (d q);
        rd = λ _ x. absurd (omega (arith, ap (how_many is_rd_fault) kept, one));
        wr = λ _ x. absurd (omega (arith, ap (how_many is_wr_fault) kept, one));
        held = λ _ x. absurd (omega (arith, rest, (he.wakes w).1));
        blocked_home = λ _ x. absurd (let z : Woken ≡ Blocked b = sym mode ∙ x in cc);
        woken_loads = λ x y z. rw (ap (λ k. k.tag) here) (serves.0 (sym ne ∙ z));
        woken_stores = λ x y z. rw (ap (λ k. k.tag) here) (serves.1 (sym ne ∙ z));
      }
        where
          was : l.mode ≡ Blocked b
          was = (a.held q (he.wakes w).0).0

          serves : (l.next ≡ Loads b → allows_load e.here.tag) × (l.next ≡ Stores b → allows_store e.here.tag)
          serves = (he.wakes w).2 l.next b (a.held q (he.wakes w).0).1

          mode : l2.mode ≡ Woken
          mode = mo ∙ ap (λ z. mode_after z b l.mode) w ∙ ap (mode_after true b) was ∙ own b
            where
              own : (c : ℕ) → mode_after true c (Blocked c) ≡ Woken
              own c = grind (arith, nat_tests)

          one : own_rd l i b + own_wr l i b ≡ 0
          one = omega (arith, a.blocked_home q was, (he.wakes w).0)

  -- the home's own fault
  pub record OwnEffect (m : Message) (e : Effect) (b : ℕ) : Type 0 where
    pub sleeps : e.woke ≡ false → (held_home e.here.rest + is_rd_fault (note_kept e m) + is_wr_fault (note_kept e m) ≡ 1)
    pub holds : e.woke ≡ false → 1 ≤ held_home e.here.rest → (x : Next) → FaultOf b m.kind x →
        words.HeldFor e.here.state e.here.rest x b
    pub wakes : e.woke ≡ true → (e.here.tag ≡ ReadOnly) × (m.kind ≡ RdFault) × (held_home e.here.rest ≡ 0) × (e.kept ≡ No)

  pub node_home_own : (s : Layout) (l l2 : Local) (i b : ℕ) (m : Message) (e : Effect) → i ≡ s.home b → OwnEffect m e b →
      kept_notes b i l2.deferred ≡ kept_if e.kept (note m) → l2.blocks b ≡ e.here → l2.mode ≡ mode_after e.woke b l.mode →
      l2.next ≡ l.next → l.mode ≡ Blocked b →
      FaultOf b m.kind l.next → AtNode words s l2 i b
  node_home_own s l l2 i b m e q oe kept here mo ne was k = go e.woke refl
    where
      rest : held_home (l2.blocks b).rest ≡ held_home e.here.rest
      rest = ap (λ z. held_home z.rest) here

      count_rd : how_many is_rd_fault (kept_if e.kept (note m)) ≡ is_rd_fault (note_kept e m)
      count_rd = grind arith

      count_wr : how_many is_wr_fault (kept_if e.kept (note m)) ≡ is_wr_fault (note_kept e m)
      count_wr = grind arith

      rd_kind : FaultOf b m.kind l.next → 1 ≤ is_rd_fault (note_kept e m) → l.next ≡ Loads b
      rd_kind (inl v) x = v.1
      rd_kind (inr v) x = absurd (let w : m.kind ≡ WrFault = v.0 in grind arith)

      wr_kind : FaultOf b m.kind l.next → 1 ≤ is_wr_fault (note_kept e m) → l.next ≡ Stores b
      wr_kind (inl v) x = absurd (let w : m.kind ≡ RdFault = v.0 in grind arith)
      wr_kind (inr v) x = v.1

      go : (t : Bool) → e.woke ≡ t → AtNode words s l2 i b
      go false w = record {
        waits_ro = λ d x. absurd (d q);
        waits_rw = λ d x. absurd (d q);
        blocked = λ d x. absurd (d q);
        rd = λ _ x. (mode, ne ∙ rd_kind k (omega (arith, ap (how_many is_rd_fault) kept, count_rd, x)));
        wr = λ _ x. (mode, ne ∙ wr_kind k (omega (arith, ap (how_many is_wr_fault) kept, count_wr, x)));
        held = λ _ x. (mode, rw (here, ne) (oe.holds w (rw rest at x) l.next k));
        blocked_home = λ _ x. omega (
          arith,
          ap (how_many is_rd_fault) kept,
          count_rd,
          ap (how_many is_wr_fault) kept,
          count_wr,
          rest,
          oe.sleeps w,
        );
        woken_loads = λ x y z. absurd (let f : Blocked b ≡ Woken = sym mode ∙ x in cc);
        woken_stores = λ x y z. absurd (let f : Blocked b ≡ Woken = sym mode ∙ x in cc);
      }
        where
          mode : l2.mode ≡ Blocked b
          mode = mo ∙ ap (λ z. mode_after z b l.mode) w ∙ was
      go true w = record {
        waits_ro = λ d x. absurd (d q);
        waits_rw = λ d x. absurd (d q);
        blocked = λ d x. absurd (d q);
        rd = λ _ x. absurd (omega (arith, ap (how_many is_rd_fault) kept, none is_rd_fault, x));
        wr = λ _ x. absurd (omega (arith, ap (how_many is_wr_fault) kept, none is_wr_fault, x));
        held = λ _ x. absurd (omega (arith, rest, (oe.wakes w).2));
        blocked_home = λ _ x. absurd (let f : Woken ≡ Blocked b = sym mode ∙ x in cc);
        woken_loads = λ x y z. rw (ap (λ c. c.tag) here ∙ (oe.wakes w).0) refl;
        woken_stores = λ x y z. absurd (no_store k (sym ne ∙ z));
      }
        where
          none : (f : Note → ℕ) → how_many f (kept_if e.kept (note m)) ≡ 0
          none f = ap (λ z. how_many f (kept_if z (note m))) (oe.wakes w).3

          mode : l2.mode ≡ Woken
          mode = mo ∙ ap (λ z. mode_after z b l.mode) w ∙ ap (mode_after true b) was ∙ own b
            where
              own : (c : ℕ) → mode_after true c (Blocked c) ≡ Woken
              own c = grind (arith, nat_tests)

          no_store : FaultOf b m.kind l.next → l.next ≡ Stores b → ⊥
          no_store (inl v) z = let f : Loads b ≡ Stores b = sym v.1 ∙ z in cc
          no_store (inr v) z = let f : WrFault ≡ RdFault = sym v.0 ∙ (oe.wakes w).1 in cc

  -- ---- the rows of a cache, at its node

  module _ (s : Layout) (l l2 : Local) (i b : ℕ) (e : Effect) (a : AtNode words s l i b) (d : i ≢ s.home b)
      (here : l2.blocks b ≡ e.here) (mo : l2.mode ≡ mode_after e.woke b l.mode) (ne : l2.next ≡ l.next)
      (ma : l.may ≡ false → l2.may ≡ false) (fr : l.mode ≡ Woken → l.may ≡ false) where
    pub unblocked : (x : State) → (l.blocks b).state ≡ x → ¬ IsWaiting x → l.mode ≢ Blocked b
    unblocked x p w q = w (let f : IsWaiting (l.blocks b).state = a.blocked d q in rw p at f)

    -- an INV or a recall leaves it not waiting
    pub loses_copy : (x : State) → e.woke ≡ false → e.here.state ≡ x → ¬ IsWaiting x → l.mode ≢ Blocked b → AtNode words s l2 i b
    loses_copy to w st calm nb =
        let mode : l2.mode ≡ l.mode = mo ∙ ap (λ z. mode_after z b l.mode) w in
        cache_quiet s l2 i b d (λ z. calm (let f : IsWaiting to = rw (ap (λ y. y.state) here ∙ st) at z in f))
        (λ z. nb (sym mode ∙ z))
        (λ x y. absurd (unwoken l l2 mode ma fr x y)) (λ x y. absurd (unwoken l l2 mode ma fr x y))

    -- data wakes it
    pub gets_copy : l.mode ≡ Blocked b → e.woke ≡ true → (e.here.state ≡ CacheRo) × (e.here.tag ≡ ReadOnly)
        × (l.next ≡ Loads b) ⊎ (e.here.state ≡ CacheRw) × (e.here.tag ≡ ReadWrite) × (l.next ≡ Stores b) → AtNode words s l2 i b
    gets_copy p w v =
        let mode : l2.mode ≡ Woken = mo ∙ ap (λ z. mode_after z b l.mode) w ∙ ap (mode_after true b) p ∙ own b in
        go v mode
      where
        own : (c : ℕ) → mode_after true c (Blocked c) ≡ Woken
        own c = grind (arith, nat_tests)

        go : (e.here.state ≡ CacheRo) × (e.here.tag ≡ ReadOnly) × (l.next ≡ Loads b) ⊎ (e.here.state ≡ CacheRw)
            × (e.here.tag ≡ ReadWrite) × (l.next ≡ Stores b) → l2.mode ≡ Woken → AtNode words s l2 i b
        go (inl v) mode =
            cache_quiet s l2 i b d (λ z. (let f : IsWaiting CacheRo = rw (ap (λ y. y.state) here ∙ v.0) at z in f))
            (λ z. (let f : Woken ≡ Blocked b = sym mode ∙ z in cc))
            (λ x y z. rw (ap (λ y. y.tag) here ∙ v.1) refl) (λ x y z. (let f : Loads b ≡ Stores b = sym v.2 ∙ sym ne ∙ z in cc))
        go (inr v) mode =
            cache_quiet s l2 i b d (λ z. (let f : IsWaiting CacheRw = rw (ap (λ y. y.state) here ∙ v.0) at z in f))
            (λ z. (let f : Woken ≡ Blocked b = sym mode ∙ z in cc))
            (λ x y z. rw (ap (λ y. y.tag) here ∙ v.1) refl) (λ x y z. rw (ap (λ y. y.tag) here ∙ v.1) refl)

    -- an INV at one that waits to write
    pub waits_on : e.woke ≡ false → e.here.state ≡ CacheWaitRw → (l.blocks b).state ≡ CacheWaitRw → AtNode words s l2 i b
    waits_on w st p =
        let mode : l2.mode ≡ l.mode = mo ∙ ap (λ z. mode_after z b l.mode) w in
        cache_waits s l2 i b d (mode ∙ (a.waits_rw d p).0) (inr (ap (λ z. z.state) here ∙ st, ne ∙ (a.waits_rw d p).1))

  -- a fault leaves it waiting
  pub asks_for : (s : Layout) (l l2 : Local) (i b : ℕ) (m : Message) (e : Effect) → i ≢ s.home b → e.woke ≡ false →
      (m.kind ≡ RdFault → e.here.state ≡ CacheWaitRo) → (m.kind ≡ WrFault → e.here.state ≡ CacheWaitRw) →
      l2.blocks b ≡ e.here → l2.mode ≡ mode_after e.woke b l.mode → l2.next ≡ l.next → l.mode ≡ Blocked b →
      FaultOf b m.kind l.next → AtNode words s l2 i b
  asks_for s l l2 i b m e d woke ro to_write here mo ne p k = go k
    where
      mode : l2.mode ≡ Blocked b
      mode = mo ∙ ap (λ z. mode_after z b l.mode) woke ∙ p

      go : FaultOf b m.kind l.next → AtNode words s l2 i b
      go (inl v) = cache_waits s l2 i b d mode (inl (ap (λ z. z.state) here ∙ ro v.0, ne ∙ v.1))
      go (inr v) = cache_waits s l2 i b d mode (inr (ap (λ z. z.state) here ∙ to_write v.0, ne ∙ v.1))
