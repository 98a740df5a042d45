-- What a cache's handlers keep, from what each does to the spot.
use Rattle.std.proofs.Common.{◌≡◌, ◌≢◌, ℕ, ◌+◌, ◌*◌, ◌-◌, ◌≤◌, Bool, false, List, [], ◌∷◌, ◌++◌, length, Some, arith, refl, sym}
use Rattle.std.proofs.Common.{◌∙◌, inl, inr, ◌⊎◌}
use Rattle.std.proofs.lemmas.List.{append-nil}
use Rattle.tw_base.specs.declared.message.Chan.TheVariants.{Zero, One}
use Rattle.tw_base.specs.declared.value.Tag.TheVariants.{Invalid, ReadOnly, ReadWrite}
use Rattle.block_tags.specs.Copies.{permits}
use Rattle.dsm_runs.specs.Events.{mode_after}
use Rattle.dsm_runs.specs.declared.mode.Mode.TheVariants.{Blocked, Woken}
use Rattle.block_spots.specs.Cases.{Kind, RdFault, WrFault, GetRo, GetRw, DataRo, DataRw, Put, Inv, Ack, Recall, RecallRo}
use Rattle.block_spots.specs.Cases.{PutRo, State, HomeExcl, HomePut, CacheInv, CacheRo, CacheRw, CacheWaitRo, CacheWaitRw}
use Rattle.block_spots.specs.Cases.{NoRest, OfCache, Message, Here, Effect, Table}
use Rattle.block_spots.specs.Notes.{Note, NGetRo, NGetRw, NInv, NAck, NRecall, NRecallRo, NDataRo, NDataRw, NPut, NPutRo, note}
use Rattle.block_spots.specs.Notes.{Spot, owes}
use Rattle.block_spots.specs.Sketches.{Layout, Local, fault}
use Rattle.stache_table.specs.Handling.{plain, carrying}
use Rattle.coherence_frame.specs.Words.{IsCacheState, IsWaiting, owner_words, tag_of}
use Rattle.coherence_frame.specs.Coherent.{AtCache, AtNode, Standing}
use Rattle.coherence_frame.specs.Weights.{price, weigh}
use Rattle.coherence_frame.proofs.Loads.{outgoing}
use Rattle.coherence_frame.proofs.Views.{sent}
use Rattle.coherence_frame.proofs.Turning.{CacheTurn, sends_nothing, sends_on_zero, sends_on_one}
use Rattle.coherence_frame.proofs.Nodes.{FaultOf, asks_for, gets_copy, loses_copy, unblocked, waits_on}
use Rattle.coherence_frame.proofs.Rows.{AtACache, IsAnswered, Says}
use Rattle.coherence_frame.proofs.CacheTable.{cache_by}

pub record CacheRows (t : Table) (w : Standing) : Type 0 where
  -- the table says at a cache what all protocols say
  pub does : (n h i : ℕ) (here : Here) (m : Message) (e : Effect) → IsCacheState here.state → t n h i here m ≡ Some e →
      cache_by here.state h i here m m.kind ≡ Some e
  pub cache_answers : (n h : ℕ) (home here : Here) (i : ℕ) (s : Spot) (m : Message) (xs : List Note) → AtCache w n h home i s →
      s.state ≡ here.state → s.down ≡ note m ∷ xs → IsAnswered (t n h i here m)
  pub cache_answers_fault : (n h i b : ℕ) (here : Here) (store : Bool) → IsCacheState here.state →
      here.tag ≡ tag_of here.state → here.state ≢ CacheWaitRo → here.state ≢ CacheWaitRw → permits here.tag store ≡ false →
      IsAnswered (t n h i here (fault store b i))
  -- a fault leaves it waiting
  pub asks_ro : (n h : ℕ) (home : Here) (i : ℕ) (s s2 : Spot) (rest : List Note) → AtCache w n h home i s →
      s.state ≡ CacheInv → s2 ≡ record s { state = CacheWaitRo; rest = OfCache; ask = s.ask ++ NGetRo ∷ [] } →
      AtCache w n h home i s2 × (owes s2 ≡ owes s)
  pub asks_rw : (n h : ℕ) (home : Here) (i : ℕ) (s s2 : Spot) (rest : List Note) → AtCache w n h home i s →
      s.state ≡ CacheInv → s2 ≡ record s { state = CacheWaitRw; rest = OfCache; ask = s.ask ++ NGetRw ∷ [] } →
      AtCache w n h home i s2 × (owes s2 ≡ owes s)
  pub upgrades : (n h : ℕ) (home : Here) (i : ℕ) (s s2 : Spot) (rest : List Note) → AtCache w n h home i s →
      s.state ≡ CacheRo → s2 ≡ record s { state = CacheWaitRw; rest = OfCache; tag = Invalid; ask = s.ask ++ NGetRw ∷ [] } →
      AtCache w n h home i s2 × (owes s2 ≡ owes s)
  -- an INV takes its copy, a recall its block
  pub inv_at_copy : (n h : ℕ) (home : Here) (i : ℕ) (s s2 : Spot) (rest : List Note) → AtCache w n h home i s →
      s.state ≡ CacheRo → s.down ≡ NInv ∷ rest → s2 ≡ record s
      { state = CacheInv; tag = Invalid; down = rest; up = s.up ++ NAck ∷ [] } → AtCache w n h home i s2 × (owes s2 ≡ owes s)
  pub recall_at_owner : (n h : ℕ) (home : Here) (i : ℕ) (s s2 : Spot) (rest : List Note) → AtCache w n h home i s →
      s.state ≡ CacheRw → s.down ≡ NRecall ∷ rest → s2 ≡ record s
      { state = CacheInv; tag = Invalid; down = rest; up = s.up ++ NPut s.words ∷ [] } →
      AtCache w n h home i s2 × (owes s2 ≡ owes s)
  pub recall_ro_at_owner : (n h : ℕ) (home : Here) (i : ℕ) (s s2 : Spot) (rest : List Note) → AtCache w n h home i s →
      s.state ≡ CacheRw → s.down ≡ NRecallRo ∷ rest → s2 ≡ record s
      { state = CacheRo; tag = ReadOnly; down = rest; up = s.up ++ NPutRo s.words ∷ [] } →
      AtCache w n h home i s2 × (owes s2 ≡ owes s)
  -- data comes
  pub data_ro_came : (n h : ℕ) (home : Here) (i : ℕ) (s s2 : Spot) (rest : List Note) → AtCache w n h home i s →
      (vs : List ℕ) → s.state ≡ CacheWaitRo → s.down ≡ NDataRo vs ∷ rest →
      s2 ≡ record s { state = CacheRo; rest = NoRest; tag = ReadOnly; words = vs; down = rest } →
      AtCache w n h home i s2 × (owes s2 ≡ owes s)
  pub data_rw_came : (n h : ℕ) (home : Here) (i : ℕ) (s s2 : Spot) (rest : List Note) → AtCache w n h home i s →
      (vs : List ℕ) → s.state ≡ CacheWaitRw → s.down ≡ NDataRw vs ∷ rest →
      s2 ≡ record s { state = CacheRw; rest = NoRest; tag = ReadWrite; words = vs; down = rest } →
      AtCache w n h home i s2 × (owes s2 ≡ owes s)
  -- an INV at one that waits to write
  pub inv_at_waiter : (n h : ℕ) (home : Here) (i : ℕ) (s s2 : Spot) (rest : List Note) → AtCache w n h home i s →
      s.state ≡ CacheWaitRw → s.down ≡ NInv ∷ rest → s2 ≡ record s { down = rest; up = s.up ++ NAck ∷ [] } →
      AtCache w n h home i s2 × (owes s2 ≡ owes s)
  -- a store at the owner
  pub store_at_owner : (n h : ℕ) (home : Here) (i : ℕ) (s s2 : Spot) (rest : List Note) → AtCache w n h home i s →
      (vs : List ℕ) → s.tag ≡ ReadWrite → s2 ≡ record s { words = vs } → AtCache w n h home i s2 × (owes s2 ≡ owes s)
  -- an owner takes a recall, or the block that it waits for
  pub owner_row : (n h : ℕ) (home : Here) (i : ℕ) (s : Spot) (x : Note) (rest : List Note) → AtCache w n h home i s →
      (home.state ≡ HomeExcl) ⊎ (home.state ≡ HomePut) → i ≡ home.owner → s.down ≡ x ∷ rest →
      (s.state ≡ CacheRw) × (rest ≡ []) × (s.up ≡ []) ⊎ (s.state ≡ CacheWaitRw) × (x ≢ NInv)

module _ (t : Table) (w : Standing) (says : Says w) (r : CacheRows t w) where
  module _ (n h i : ℕ) (home : Here) (here : Here) (m : Message) (e : Effect) (s s2 : Spot) (down : List Note)
      (c : AtCache w n h home i s)
      (st : s.state ≡ here.state) (tg : s.tag ≡ here.tag) (rs : s.rest ≡ here.rest) (wd : s.words ≡ here.words)
      (cs : IsCacheState here.state) (acts : t n h i here m ≡ Some e) (u : CacheTurn h i m e s s2 down) where
    does : cache_by here.state h i here m m.kind ≡ Some e
    does = r.does n h i here m e cs acts

    -- the rows of a delivered message
    inv_takes_copy : here.state ≡ CacheRo → m.kind ≡ Inv → m.from ≡ h → s.down ≡ note m ∷ down →
        AtCache w n h home i s2 × (owes s2 ≡ owes s)
    inv_takes_copy p k f d =
        let z : (sent m.block e.sends i h Zero ≡ []) × (sent m.block e.sends i h One ≡ NAck ∷ []) =
        sends_on_one h i m e (plain Ack m.block i h) (grind arith) refl refl refl refl in
        r.inv_at_copy n h home i s s2 down c (st ∙ p) (grind arith) (grind (arith, append-nil))

    recall_takes_block : here.state ≡ CacheRw → m.kind ≡ Recall → m.from ≡ h → s.down ≡ note m ∷ down →
        AtCache w n h home i s2 × (owes s2 ≡ owes s)
    recall_takes_block p k f d =
        let z : (sent m.block e.sends i h Zero ≡ []) × (sent m.block e.sends i h One ≡ NPut here.words ∷ []) =
        sends_on_one h i m e (carrying Put m.block i h here.words) (grind arith) refl refl refl refl in
        r.recall_at_owner n h home i s s2 down c (st ∙ p) (grind arith) (grind (arith, append-nil))

    recall_leaves_copy : here.state ≡ CacheRw → m.kind ≡ RecallRo → m.from ≡ h → s.down ≡ note m ∷ down →
        AtCache w n h home i s2 × (owes s2 ≡ owes s)
    recall_leaves_copy p k f d =
        let z : (sent m.block e.sends i h Zero ≡ []) × (sent m.block e.sends i h One ≡ NPutRo here.words ∷ []) =
        sends_on_one h i m e (carrying PutRo m.block i h here.words) (grind arith) refl refl refl refl in
        r.recall_ro_at_owner n h home i s s2 down c (st ∙ p) (grind arith) (grind (arith, append-nil))

    copy_comes : here.state ≡ CacheWaitRo → m.kind ≡ DataRo → s.down ≡ note m ∷ down →
        AtCache w n h home i s2 × (owes s2 ≡ owes s)
    copy_comes p k d =
        let z : (sent m.block e.sends i h Zero ≡ []) × (sent m.block e.sends i h One ≡ []) =
        sends_nothing h i m e (grind arith) in
        r.data_ro_came n h home i s s2 down c m.payload (st ∙ p) (grind arith) (grind (arith, append-nil))

    block_comes : here.state ≡ CacheWaitRw → m.kind ≡ DataRw → s.down ≡ note m ∷ down →
        AtCache w n h home i s2 × (owes s2 ≡ owes s)
    block_comes p k d =
        let z : (sent m.block e.sends i h Zero ≡ []) × (sent m.block e.sends i h One ≡ []) =
        sends_nothing h i m e (grind arith) in
        r.data_rw_came n h home i s s2 down c m.payload (st ∙ p) (grind arith) (grind (arith, append-nil))

    inv_at_wait : here.state ≡ CacheWaitRw → m.kind ≡ Inv → m.from ≡ h → s.down ≡ note m ∷ down →
        AtCache w n h home i s2 × (owes s2 ≡ owes s)
    inv_at_wait p k f d =
        let z : (sent m.block e.sends i h Zero ≡ []) × (sent m.block e.sends i h One ≡ NAck ∷ []) =
        sends_on_one h i m e (plain Ack m.block i h) (grind arith) refl refl refl refl in
        r.inv_at_waiter n h home i s s2 down c (st ∙ p) (grind arith) (grind (arith, append-nil))

    pub message_comes : m.from ≡ h → s.down ≡ note m ∷ down → AtCache w n h home i s2 × (owes s2 ≡ owes s)
    message_comes f d = go here.state refl m.kind refl
      where
        go : (x : State) → here.state ≡ x → (k : Kind) → m.kind ≡ k → AtCache w n h home i s2 × (owes s2 ≡ owes s)
        go CacheRo p Inv q = inv_takes_copy p q f d
        go CacheRw p Recall q = recall_takes_block p q f d
        go CacheRw p RecallRo q = recall_leaves_copy p q f d
        go CacheWaitRo p DataRo q = copy_comes p q d
        go CacheWaitRw p DataRw q = block_comes p q d
        go CacheWaitRw p Inv q = inv_at_wait p q f d
        go x p k q = let no_fault : (m.kind ≢ RdFault) × (m.kind ≢ WrFault) =
            says.no_fault_down n h home i s m down c d in absurd (grind arith)

    -- the rows of a fault
    reads : here.state ≡ CacheInv → m.kind ≡ RdFault → s.down ≡ down → AtCache w n h home i s2 × (owes s2 ≡ owes s)
    reads p k d =
        let z : (sent m.block e.sends i h Zero ≡ NGetRo ∷ []) × (sent m.block e.sends i h One ≡ []) =
        sends_on_zero h i m e (plain GetRo m.block i h) (grind arith) refl refl refl refl in
        r.asks_ro n h home i s s2 down c (st ∙ p) (grind (arith, append-nil))

    writes : here.state ≡ CacheInv → m.kind ≡ WrFault → s.down ≡ down → AtCache w n h home i s2 × (owes s2 ≡ owes s)
    writes p k d =
        let z : (sent m.block e.sends i h Zero ≡ NGetRw ∷ []) × (sent m.block e.sends i h One ≡ []) =
        sends_on_zero h i m e (plain GetRw m.block i h) (grind arith) refl refl refl refl in
        r.asks_rw n h home i s s2 down c (st ∙ p) (grind (arith, append-nil))

    writes_copy : here.state ≡ CacheRo → m.kind ≡ WrFault → s.down ≡ down → AtCache w n h home i s2 × (owes s2 ≡ owes s)
    writes_copy p k d =
        let z : (sent m.block e.sends i h Zero ≡ NGetRw ∷ []) × (sent m.block e.sends i h One ≡ []) =
        sends_on_zero h i m e (plain GetRw m.block i h) (grind arith) refl refl refl refl in
        r.upgrades n h home i s s2 down c (st ∙ p) (grind (arith, append-nil))

    pub fault_at : (m.kind ≡ RdFault) ⊎ (m.kind ≡ WrFault) → s.down ≡ down → AtCache w n h home i s2 × (owes s2 ≡ owes s)
    fault_at k d = go here.state refl k
      where
        go : (x : State) → here.state ≡ x → (m.kind ≡ RdFault) ⊎ (m.kind ≡ WrFault) → AtCache w n h home i s2 × (owes s2 ≡ owes s)
        go CacheInv p (inl q) = reads p q d
        go CacheInv p (inr q) = writes p q d
        go CacheRo p (inl q) = absurd (grind arith)
        go CacheRo p (inr q) = writes_copy p q d
        go x p k = absurd (grind arith)

    -- where i owns the block, its words stay
    pub words_kept : (home.state ≡ HomeExcl) ⊎ (home.state ≡ HomePut) → i ≡ home.owner → m.from ≡ h → s.down ≡ note m ∷ down →
        owner_words s2 ≡ owner_words s
    words_kept away o f d = by (r.owner_row n h home i s (note m) down c away o d)
      where
        recalled : (k : Kind) → m.kind ≡ k → here.state ≡ CacheRw → down ≡ [] → s.up ≡ [] → owner_words s2 ≡ owner_words s
        recalled Recall q p x y =
            let z : (sent m.block e.sends i h Zero ≡ []) × (sent m.block e.sends i h One ≡ NPut here.words ∷ []) =
            sends_on_one h i m e (carrying Put m.block i h here.words) (grind arith) refl refl refl refl in
            grind arith
        recalled RecallRo q p x y =
            let z : (sent m.block e.sends i h Zero ≡ []) × (sent m.block e.sends i h One ≡ NPutRo here.words ∷ []) =
            sends_on_one h i m e (carrying PutRo m.block i h here.words) (grind arith) refl refl refl refl in
            grind arith
        recalled k q p x y = absurd (grind arith)

        came : (k : Kind) → m.kind ≡ k → here.state ≡ CacheWaitRw → note m ≢ NInv → owner_words s2 ≡ owner_words s
        came DataRw q p x = grind arith
        came Inv q p x = absurd (x (grind arith))
        came k q p x = absurd (grind arith)

        by : (s.state ≡ CacheRw) × (down ≡ []) × (s.up ≡ []) ⊎ (s.state ≡ CacheWaitRw) × (note m ≢ NInv) →
            owner_words s2 ≡ owner_words s
        by (inl q) = recalled m.kind refl (sym st ∙ q.0) q.1 q.2
        by (inr q) = came m.kind refl (sym st ∙ q.0) q.1

    pub words_faulted : (home.state ≡ HomeExcl) ⊎ (home.state ≡ HomePut) → i ≡ home.owner →
        (m.kind ≡ RdFault) ⊎ (m.kind ≡ WrFault) → s.down ≡ down → owner_words s2 ≡ owner_words s
    words_faulted w o k d = go here.state refl k
      where
        go : (x : State) → here.state ≡ x → (m.kind ≡ RdFault) ⊎ (m.kind ≡ WrFault) → owner_words s2 ≡ owner_words s
        go CacheInv p (inl q) =
            let z : (sent m.block e.sends i h Zero ≡ NGetRo ∷ []) × (sent m.block e.sends i h One ≡ []) =
            sends_on_zero h i m e (plain GetRo m.block i h) (grind arith) refl refl refl refl in grind (arith, append-nil)
        go CacheInv p (inr q) =
            let z : (sent m.block e.sends i h Zero ≡ NGetRw ∷ []) × (sent m.block e.sends i h One ≡ []) =
            sends_on_zero h i m e (plain GetRw m.block i h) (grind arith) refl refl refl refl in grind (arith, append-nil)
        go CacheRo p (inr q) =
            let z : (sent m.block e.sends i h Zero ≡ NGetRw ∷ []) × (sent m.block e.sends i h One ≡ []) =
            sends_on_zero h i m e (plain GetRw m.block i h) (grind arith) refl refl refl refl in grind (arith, append-nil)
        go CacheRo p (inl q) = absurd (grind arith)
        go x p k = absurd (grind arith)

  -- a message at a cache
  pub node_message : (s : Layout) (l l2 : Local) (i b : ℕ) (m : Message) (e : Effect) → AtNode w s l i b → i ≢ s.home b →
      t s.nodes (s.home b) i (l.blocks b) m ≡ Some e →
      l2.blocks b ≡ e.here → l2.mode ≡ mode_after e.woke b l.mode → l2.next ≡ l.next → (l.may ≡ false → l2.may ≡ false) →
      (l.mode ≡ Woken → l.may ≡ false) →
      IsCacheState (l.blocks b).state → m.kind ≢ RdFault → m.kind ≢ WrFault → AtNode w s l2 i b
  node_message s l l2 i b m e a d acts here mo ne ma fr cs u v = go (l.blocks b).state refl m.kind refl cs
    where
      does : cache_by (l.blocks b).state (s.home b) i (l.blocks b) m m.kind ≡ Some e
      does = r.does s.nodes (s.home b) i (l.blocks b) m e cs acts

      free : (x : State) → (l.blocks b).state ≡ x → ¬ IsWaiting x → l.mode ≢ Blocked b
      free = unblocked w s l l2 i b e a d here mo ne ma fr

      go : (x : State) → (l.blocks b).state ≡ x → (k : Kind) → m.kind ≡ k → IsCacheState (l.blocks b).state → AtNode w s l2 i b
      go CacheRo p Inv q c = loses_copy w s l l2 i b e a d here mo ne ma fr CacheInv (grind arith) (grind arith) (λ z. z)
          (free _ p (λ z. z))
      go CacheRw p Recall q c = loses_copy w s l l2 i b e a d here mo ne ma fr CacheInv (grind arith) (grind arith) (λ z. z)
          (free _ p (λ z. z))
      go CacheRw p RecallRo q c = loses_copy w s l l2 i b e a d here mo ne ma fr CacheRo (grind arith) (grind arith) (λ z. z)
          (free _ p (λ z. z))
      go CacheWaitRo p DataRo q c = gets_copy w s l l2 i b e a d here mo ne ma fr (a.waits_ro d p).0 (grind arith)
          (inl (grind arith, grind arith, (a.waits_ro d p).1))
      go CacheWaitRw p DataRw q c = gets_copy w s l l2 i b e a d here mo ne ma fr (a.waits_rw d p).0 (grind arith)
          (inr (grind arith, grind arith, (a.waits_rw d p).1))
      go CacheWaitRw p Inv q c = waits_on w s l l2 i b e a d here mo ne ma fr (grind arith) (grind arith) p
      go x p k q c = absurd (grind arith)

  -- a cache's fault
  pub node_cache_fault : (s : Layout) (l l2 : Local) (i b : ℕ) (m : Message) (e : Effect) → i ≢ s.home b →
      t s.nodes (s.home b) i (l.blocks b) m ≡ Some e → IsCacheState (l.blocks b).state →
      l2.blocks b ≡ e.here → l2.mode ≡ mode_after e.woke b l.mode → l2.next ≡ l.next → l.mode ≡ Blocked b →
      FaultOf b m.kind l.next → AtNode w s l2 i b
  node_cache_fault s l l2 i b m e d acts cs here mo ne p k =
      asks_for w s l l2 i b m e d (woke k) reads_next writes_next here mo ne p k
    where
      does : cache_by (l.blocks b).state (s.home b) i (l.blocks b) m m.kind ≡ Some e
      does = r.does s.nodes (s.home b) i (l.blocks b) m e cs acts

      woke : FaultOf b m.kind l.next → e.woke ≡ false
      woke (inl v) = grind arith
      woke (inr v) = grind arith

      reads_next : m.kind ≡ RdFault → e.here.state ≡ CacheWaitRo
      reads_next v = grind arith

      writes_next : m.kind ≡ WrFault → e.here.state ≡ CacheWaitRw
      writes_next v = grind arith

  -- at a cache, a message that comes pays
  paid_at_cache : (n h i : ℕ) (here : Here) (m : Message) (e : Effect) → IsCacheState here.state → m.kind ≢ RdFault →
      m.kind ≢ WrFault → t n h i here m ≡ Some e →
      (1 + outgoing (weigh n) e.sends ≤ weigh n (note m)) × (length e.sends + outgoing (price n) e.sends ≤ price n (note m))
  paid_at_cache n h i here m e cs d1 d2 acts = let does : cache_by here.state h i here m m.kind ≡ Some e =
      r.does n h i here m e cs acts in (grind arith, grind arith)

  -- and a fault leaves one request
  fault_at_cache : (n h i : ℕ) (here : Here) (m : Message) (e : Effect) → 1 ≤ n → IsCacheState here.state →
      (m.kind ≡ RdFault) ⊎ (m.kind ≡ WrFault) → t n h i here m ≡ Some e →
      (outgoing (weigh n) e.sends ≤ 3 * n - 1) × (length e.sends + outgoing (price n) e.sends ≤ 2 * n)
  fault_at_cache n h i here m e l cs k acts = let does : cache_by here.state h i here m m.kind ≡ Some e =
      r.does n h i here m e cs acts in (grind arith, grind arith)

  pub at_a_cache : AtACache t w
  at_a_cache = record {
    message_comes = λ n h i home here m e s s2 down c st tg rs wd acts u. message_comes n h i home here m e s s2 down c st tg
        rs wd (state_of n h home here i s c st) acts u;
    fault_at = λ n h i home here m e s s2 down c st tg rs wd acts u. fault_at n h i home here m e s s2 down c st tg rs wd
        (state_of n h home here i s c st) acts u;
    words_kept = λ n h i home here m e s s2 down c st tg rs wd acts u. words_kept n h i home here m e s s2 down c st tg rs wd
        (state_of n h home here i s c st) acts u;
    words_faulted = λ n h i home here m e s s2 down c st tg rs wd acts u. words_faulted n h i home here m e s s2 down c st tg
        rs wd (state_of n h home here i s c st) acts u;
    store_at_owner = r.store_at_owner;
    node_message = node_message;
    node_cache_fault = node_cache_fault;
    cache_answers = r.cache_answers;
    cache_answers_fault = r.cache_answers_fault;
    paid_at_cache = paid_at_cache;
    fault_at_cache = fault_at_cache;
  }
    where
      state_of : (n h : ℕ) (home here : Here) (i : ℕ) (s : Spot) → AtCache w n h home i s → s.state ≡ here.state →
          IsCacheState here.state
      state_of n h home here i s c st = rw (sym st) c.state
